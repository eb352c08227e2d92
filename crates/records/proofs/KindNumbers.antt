-- Each number is of one kind.
use Rattle.std.proofs.Common.{◌≡◌, ℕ, List, [], ◌∷◌, refl, ap, ◌∙◌, sym, eqb, cond}
use Rattle.std.specs.Prelude.{Option, Some, None, MatchOption}
use Rattle.std.specs.List.{All}
use Rattle.catalog.proofs.Places.{every_kind}
use Rattle.catalog.specs.Kinds.{kind_number}
use Rattle.catalog.specs.declared.kind.TheConstants.{KINDS}
use Rattle.catalog.specs.declared.kind.Kind.{Kind}
use Rattle.catalog.specs.declared.kind.Kind.TheVariants.{MetalMine, CrystalMine, DeuteriumSynth, SolarPlant, MetalStore, CrystalStore, DeuteriumTank, Robotics, Shipyard, Lab, Nanite, Energy, Laser, Ion, Hyperspace, Plasma, Combustion, Impulse, Hyperdrive, Espionage, Computer, Weapons, Shielding, Armour, Graviton, SmallCargo, LargeCargo, LightFighter, HeavyFighter, Cruiser, Battleship, Battlecruiser, Bomber, Destroyer, Deathstar, Recycler, ColonyShip, Probe, Satellite, Launcher, LightLaser, HeavyLaser, Gauss, IonCannon, PlasmaTurret, SmallDome, LargeDome}

-- the first of these kinds with this number
first_numbered : ℕ → List Kind → Kind
first_numbered number [] = MetalMine
first_numbered number (kind ∷ kinds) = cond (eqb (kind_number kind) number) kind (first_numbered number kinds)

numbered_itself : (kind : Kind) → first_numbered (kind_number kind) KINDS ≡ kind
unfolding first_numbered
numbered_itself MetalMine = refl
numbered_itself CrystalMine = refl
numbered_itself DeuteriumSynth = refl
numbered_itself SolarPlant = refl
numbered_itself MetalStore = refl
numbered_itself CrystalStore = refl
numbered_itself DeuteriumTank = refl
numbered_itself Robotics = refl
numbered_itself Shipyard = refl
numbered_itself Lab = refl
numbered_itself Nanite = refl
numbered_itself Energy = refl
numbered_itself Laser = refl
numbered_itself Ion = refl
numbered_itself Hyperspace = refl
numbered_itself Plasma = refl
numbered_itself Combustion = refl
numbered_itself Impulse = refl
numbered_itself Hyperdrive = refl
numbered_itself Espionage = refl
numbered_itself Computer = refl
numbered_itself Weapons = refl
numbered_itself Shielding = refl
numbered_itself Armour = refl
numbered_itself Graviton = refl
numbered_itself SmallCargo = refl
numbered_itself LargeCargo = refl
numbered_itself LightFighter = refl
numbered_itself HeavyFighter = refl
numbered_itself Cruiser = refl
numbered_itself Battleship = refl
numbered_itself Battlecruiser = refl
numbered_itself Bomber = refl
numbered_itself Destroyer = refl
numbered_itself Deathstar = refl
numbered_itself Recycler = refl
numbered_itself ColonyShip = refl
numbered_itself Probe = refl
numbered_itself Satellite = refl
numbered_itself Launcher = refl
numbered_itself LightLaser = refl
numbered_itself HeavyLaser = refl
numbered_itself Gauss = refl
numbered_itself IonCannon = refl
numbered_itself PlasmaTurret = refl
numbered_itself SmallDome = refl
numbered_itself LargeDome = refl

number_once : (a b : Kind) → kind_number a ≡ kind_number b → a ≡ b
number_once a b same = sym (numbered_itself a) ∙ ap (λ number. first_numbered number KINDS) same ∙ numbered_itself b

-- a search of all kinds finds the one that has a number
pub found_kind : (number : ℕ) (found : Option Kind) (kind : Kind) → MatchOption found (All (λ other. number ≡ kind_number other → ⊥) KINDS) (λ other. number ≡ kind_number other) → number ≡ kind_number kind → found ≡ Some kind
found_kind number None kind none is = absurd (every_kind (λ other. number ≡ kind_number other → ⊥) none kind is)
found_kind number (Some other) kind named is = ap Some (number_once other kind (sym named ∙ is))
