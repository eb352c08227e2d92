use Rattle.laziness.specs.Parcels.{parcel_model}
use Rattle.laziness.proofs.ParcelLaws.{parcel_laws}
use Rattle.laziness.proofs.laws.parcels_tick.Given as goal

abbrev pub ghosts-closures_are_least : goal.ghosts-closures_are_least
ghosts-closures_are_least a = record { Setting = Unit {0}; model = λ _. parcel_model; laws = λ _. parcel_laws }

abbrev pub ghosts-seconds_end : goal.ghosts-seconds_end
ghosts-seconds_end a = record { Setting = Unit {0}; model = λ _. parcel_model; laws = λ _. parcel_laws }

abbrev pub ghosts-ticks_locally : goal.ghosts-ticks_locally
ghosts-ticks_locally a = record { Setting = Unit {0}; model = λ _. parcel_model; laws = λ _. parcel_laws }

abbrev pub ghosts-lazy_equals_ticking : goal.ghosts-lazy_equals_ticking
ghosts-lazy_equals_ticking a = record { Setting = Unit {0}; model = λ _. parcel_model; laws = λ _. parcel_laws }

abbrev pub ghosts-entries_touch_their_closure : goal.ghosts-entries_touch_their_closure
ghosts-entries_touch_their_closure a = record { Setting = Unit {0}; model = λ _. parcel_model; laws = λ _. parcel_laws }

abbrev pub ghosts-cells_decide : goal.ghosts-cells_decide
ghosts-cells_decide a = record { Setting = Unit {0}; model = λ _. parcel_model; laws = λ _. parcel_laws }

abbrev pub ghosts-parts_come_first : goal.ghosts-parts_come_first
ghosts-parts_come_first a = record { Setting = Unit {0}; model = λ _. parcel_model; laws = λ _. parcel_laws }
