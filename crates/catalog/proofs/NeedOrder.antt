-- An order of the kinds in which each comes after all that it needs.
use Rattle.std.proofs.Common.{◌≡◌, ℕ, ◌<◌, Bool, true, nat_lt, refl}
use Rattle.std.specs.List.{All, list_all}
use Rattle.std.proofs.lemmas.Bool.{ltb-true}
use Rattle.std.proofs.lemmas.List.Sums.{AllPass-from_list_all}
use Rattle.catalog.proofs.Places.{every_kind}
use Rattle.catalog.specs.Needs.{needs_of}
use Rattle.catalog.specs.declared.kind.Kind.{Kind}
use Rattle.catalog.specs.declared.kind.Kind.TheVariants.{Shipyard, Nanite, Energy, Laser, Ion, Hyperspace, Plasma, Combustion, Impulse, Hyperdrive, Espionage, Computer, Weapons, Shielding, Armour, Graviton, SmallCargo, LargeCargo, LightFighter, HeavyFighter, Cruiser, Battleship, Battlecruiser, Bomber, Destroyer, Deathstar, Recycler, ColonyShip, Probe, Satellite, Launcher, LightLaser, HeavyLaser, Gauss, IonCannon, PlasmaTurret, SmallDome, LargeDome}
use Rattle.catalog.specs.declared.kind.TheConstants.{KINDS}

-- a place for each kind, after all that it needs
abbrev pub place : Kind → ℕ
place Shipyard = 1
place Nanite = 2
place Energy = 1
place Laser = 2
place Ion = 3
place Hyperspace = 3
place Plasma = 4
place Combustion = 2
place Impulse = 2
place Hyperdrive = 4
place Espionage = 1
place Computer = 1
place Weapons = 1
place Shielding = 2
place Armour = 1
place Graviton = 1
place SmallCargo = 5
place LargeCargo = 5
place LightFighter = 5
place HeavyFighter = 5
place Cruiser = 5
place Battleship = 5
place Battlecruiser = 5
place Bomber = 5
place Destroyer = 5
place Deathstar = 5
place Recycler = 5
place ColonyShip = 5
place Probe = 5
place Satellite = 5
place Launcher = 5
place LightLaser = 5
place HeavyLaser = 5
place Gauss = 5
place IonCannon = 5
place PlasmaTurret = 5
place SmallDome = 5
place LargeDome = 5
place _ = 0

-- whether a kind comes after all that it needs
abbrev pub comes_after : Kind → Bool
comes_after kind = list_all (λ need. nat_lt (place need.kind) (place kind)) (needs_of kind)

pub after_needs : (kind : Kind) → comes_after kind ≡ true
after_needs = every_kind (λ kind. comes_after kind ≡ true) (AllPass-from_list_all comes_after KINDS refl)

pub in_order : (place : Kind → ℕ) × ((kind : Kind) → All (λ need. place need.kind < place kind) (needs_of kind))
in_order = (
  place,
  λ kind k other within.
      ltb-true _ _ (AllPass-from_list_all (λ need. nat_lt (place need.kind) (place kind)) (needs_of kind) (after_needs kind) k other within),
)
