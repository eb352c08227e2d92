-- The place of each kind in the list of all kinds.
use Rattle.std.proofs.Common.{◌≡◌, ℕ, ◌<◌, List, refl, get_or, lit<, subst}
use Rattle.std.specs.Prelude.{Option, Some, None, MatchOption}
use Rattle.catalog.specs.Kinds.{kind_word}
use Rattle.std.specs.List.{All}
use Rattle.catalog.specs.declared.kind.TheConstants.{KINDS}
use Rattle.catalog.specs.declared.kind.Kind.{Kind}
use Rattle.catalog.specs.declared.kind.Kind.TheVariants.{MetalMine, CrystalMine, DeuteriumSynth, SolarPlant, MetalStore, CrystalStore, DeuteriumTank, Robotics, Shipyard, Lab, Nanite, Energy, Laser, Ion, Hyperspace, Plasma, Combustion, Impulse, Hyperdrive, Espionage, Computer, Weapons, Shielding, Armour, Graviton, SmallCargo, LargeCargo, LightFighter, HeavyFighter, Cruiser, Battleship, Battlecruiser, Bomber, Destroyer, Deathstar, Recycler, ColonyShip, Probe, Satellite, Launcher, LightLaser, HeavyLaser, Gauss, IonCannon, PlasmaTurret, SmallDome, LargeDome}

abbrev pub place : Kind → ℕ
place MetalMine = 0
place CrystalMine = 1
place DeuteriumSynth = 2
place SolarPlant = 3
place MetalStore = 4
place CrystalStore = 5
place DeuteriumTank = 6
place Robotics = 7
place Shipyard = 8
place Lab = 9
place Nanite = 10
place Energy = 11
place Laser = 12
place Ion = 13
place Hyperspace = 14
place Plasma = 15
place Combustion = 16
place Impulse = 17
place Hyperdrive = 18
place Espionage = 19
place Computer = 20
place Weapons = 21
place Shielding = 22
place Armour = 23
place Graviton = 24
place SmallCargo = 25
place LargeCargo = 26
place LightFighter = 27
place HeavyFighter = 28
place Cruiser = 29
place Battleship = 30
place Battlecruiser = 31
place Bomber = 32
place Destroyer = 33
place Deathstar = 34
place Recycler = 35
place ColonyShip = 36
place Probe = 37
place Satellite = 38
place Launcher = 39
place LightLaser = 40
place HeavyLaser = 41
place Gauss = 42
place IonCannon = 43
place PlasmaTurret = 44
place SmallDome = 45
place LargeDome = 46

pub kind_at : (kind other : Kind) → get_or KINDS (place kind) other ≡ kind
kind_at MetalMine other = refl
kind_at CrystalMine other = refl
kind_at DeuteriumSynth other = refl
kind_at SolarPlant other = refl
kind_at MetalStore other = refl
kind_at CrystalStore other = refl
kind_at DeuteriumTank other = refl
kind_at Robotics other = refl
kind_at Shipyard other = refl
kind_at Lab other = refl
kind_at Nanite other = refl
kind_at Energy other = refl
kind_at Laser other = refl
kind_at Ion other = refl
kind_at Hyperspace other = refl
kind_at Plasma other = refl
kind_at Combustion other = refl
kind_at Impulse other = refl
kind_at Hyperdrive other = refl
kind_at Espionage other = refl
kind_at Computer other = refl
kind_at Weapons other = refl
kind_at Shielding other = refl
kind_at Armour other = refl
kind_at Graviton other = refl
kind_at SmallCargo other = refl
kind_at LargeCargo other = refl
kind_at LightFighter other = refl
kind_at HeavyFighter other = refl
kind_at Cruiser other = refl
kind_at Battleship other = refl
kind_at Battlecruiser other = refl
kind_at Bomber other = refl
kind_at Destroyer other = refl
kind_at Deathstar other = refl
kind_at Recycler other = refl
kind_at ColonyShip other = refl
kind_at Probe other = refl
kind_at Satellite other = refl
kind_at Launcher other = refl
kind_at LightLaser other = refl
kind_at HeavyLaser other = refl
kind_at Gauss other = refl
kind_at IonCannon other = refl
kind_at PlasmaTurret other = refl
kind_at SmallDome other = refl
kind_at LargeDome other = refl

pub place_within : (kind : Kind) → place kind < 47
place_within MetalMine = lit< tt
place_within CrystalMine = lit< tt
place_within DeuteriumSynth = lit< tt
place_within SolarPlant = lit< tt
place_within MetalStore = lit< tt
place_within CrystalStore = lit< tt
place_within DeuteriumTank = lit< tt
place_within Robotics = lit< tt
place_within Shipyard = lit< tt
place_within Lab = lit< tt
place_within Nanite = lit< tt
place_within Energy = lit< tt
place_within Laser = lit< tt
place_within Ion = lit< tt
place_within Hyperspace = lit< tt
place_within Plasma = lit< tt
place_within Combustion = lit< tt
place_within Impulse = lit< tt
place_within Hyperdrive = lit< tt
place_within Espionage = lit< tt
place_within Computer = lit< tt
place_within Weapons = lit< tt
place_within Shielding = lit< tt
place_within Armour = lit< tt
place_within Graviton = lit< tt
place_within SmallCargo = lit< tt
place_within LargeCargo = lit< tt
place_within LightFighter = lit< tt
place_within HeavyFighter = lit< tt
place_within Cruiser = lit< tt
place_within Battleship = lit< tt
place_within Battlecruiser = lit< tt
place_within Bomber = lit< tt
place_within Destroyer = lit< tt
place_within Deathstar = lit< tt
place_within Recycler = lit< tt
place_within ColonyShip = lit< tt
place_within Probe = lit< tt
place_within Satellite = lit< tt
place_within Launcher = lit< tt
place_within LightLaser = lit< tt
place_within HeavyLaser = lit< tt
place_within Gauss = lit< tt
place_within IonCannon = lit< tt
place_within PlasmaTurret = lit< tt
place_within SmallDome = lit< tt
place_within LargeDome = lit< tt

-- what holds of each kind in the list holds of every kind
pub every_kind : (P : Kind → Type 0) → All P KINDS → (kind : Kind) → P kind
every_kind P all kind = subst P (kind_at kind kind) (all (place kind) kind (place_within kind))

-- a search of the whole list finds the kind that a word names
pub read_whole : (word : List ℕ) (found : Option Kind) → MatchOption found (All (λ kind. word ≡ kind_word kind → ⊥) KINDS) (λ kind. word ≡ kind_word kind) → MatchOption found ((kind : Kind) → word ≡ kind_word kind → ⊥) (λ kind. word ≡ kind_word kind)
read_whole word None none = every_kind (λ kind. word ≡ kind_word kind → ⊥) none
read_whole word (Some kind) named = named
