-- The bytes of fleets, one after another.
use Rattle.std.proofs.Common.{◌≡◌, ℕ, ◌+◌, ◌*◌, ◌<◌, ◌≤◌, List, [], ◌∷◌, ◌++◌, length, map, take, drop, get_or, arith, refl, sym, ◌∙◌, ap, length-append}
use Rattle.std.specs.List.{flat_map}
use Rattle.std.proofs.lemmas.List.{append_assoc, drop_more, map-append, take_more}
use Rattle.base_bytes.specs.Spelling.{coord_bytes, fleet_bytes, flight_bytes, load_of, timing_bytes}
use Rattle.base_ids.specs.declared.coord.Coord.{Coord}
use Rattle.fleet_rec.specs.Fleet.{fleet_seen}
use Rattle.fleet_rec.specs.declared.fleet.Fleet.{Fleet as FleetRecord}
use Rattle.records.proofs.Cursor.{length-u16, length-u32, length-u64}
use Rattle.records.specs.Entries.{load_bytes, u32}
use Rattle.tick_model.specs.Universe.{Fleet}

-- the bytes of the next fleet stand first
pub next-fleet : (held : List FleetRecord) (i : ℕ) (d : FleetRecord) (rest more : List ℕ) → i < length held → rest ≡ flat_map fleet_bytes (map fleet_seen (drop i held)) ++ more
    → rest ≡ fleet_bytes (fleet_seen (get_or held i d)) ++ (flat_map fleet_bytes (map fleet_seen (drop (i + 1) held)) ++ more)
next-fleet held i d rest more below is =
    is ∙ ap (λ (l : List FleetRecord). flat_map fleet_bytes (map fleet_seen l) ++ more) (drop_more held i d below)
    ∙ append_assoc (fleet_bytes (fleet_seen (get_or held i d))) (flat_map fleet_bytes (map fleet_seen (drop (i + 1) held))) more

-- one fleet more is read
pub fleet-read : (held : List FleetRecord) (read new : List Fleet) (i : ℕ) (found d : FleetRecord) → i < length held → read ≡ map fleet_seen (take i held)
    → fleet_seen found ≡ fleet_seen (get_or held i d) → new ≡ read ++ fleet_seen found ∷ [] → new ≡ map fleet_seen (take (i + 1) held)
fleet-read held read new i found d below so_far same next =
    next ∙ ap (λ (l : List Fleet). l ++ fleet_seen found ∷ []) so_far ∙ ap (λ (f : Fleet). map fleet_seen (take i held) ++ f ∷ []) same
    ∙ sym (map-append fleet_seen (take i held) (get_or held i d ∷ [])) ∙ ap (map fleet_seen) (sym (take_more held i d below))

counts-long : (counts : List ℕ) → length (flat_map u32 counts) ≡ 4 * length counts
counts-long [] = refl
counts-long (count ∷ counts) = omega (arith, length-append (u32 count) (flat_map u32 counts), length-u32 count, counts-long counts)

coord-long : (at : Coord) → length (coord_bytes at) ≡ 4
coord-long at = simp (length-append, length-u16) refl

flight-long : (fleet : Fleet) → length (flight_bytes fleet) ≡ 30
flight-long fleet = simp (length-append, length-u64, length-u32, length-u16) refl

timing-long : (fleet : Fleet) → length (timing_bytes fleet) ≡ 17
timing-long fleet = simp (length-append, length-u64) refl

load-long : (fleet : FleetRecord) → length (load_bytes (load_of (fleet_seen fleet))) ≡ 76
load-long fleet = simp (length-append, length-u64, counts-long) (omega (arith, fleet.ships.kinds))

fleet-long : (fleet : FleetRecord) → length (fleet_bytes (fleet_seen fleet)) ≡ 123
fleet-long fleet =
    let flies = flight_bytes (fleet_seen fleet) in
    let times = timing_bytes (fleet_seen fleet) in
    let bears = load_bytes (load_of (fleet_seen fleet)) in
    let first = length-append flies (times ++ (bears ++ [])) in
    let second = length-append times (bears ++ []) in
    let third = length-append bears [] in
    omega (arith, first, second, third, flight-long (fleet_seen fleet), timing-long (fleet_seen fleet), load-long fleet)

-- a fleet has 123 bytes
pub fleets-long : (held : List FleetRecord) → length (flat_map fleet_bytes (map fleet_seen held)) ≡ 123 * length held
fleets-long [] = refl
fleets-long (fleet ∷ held) =
    omega (arith, length-append (fleet_bytes (fleet_seen fleet)) (flat_map fleet_bytes (map fleet_seen held)), fleet-long fleet, fleets-long held)

-- so there are bytes for all
pub room-for-all : (held : List FleetRecord) (rest more : List ℕ) → rest ≡ flat_map fleet_bytes (map fleet_seen held) ++ more → 123 * length held ≤ length rest
room-for-all held rest more is = omega (arith, ap length is, length-append (flat_map fleet_bytes (map fleet_seen held)) more, fleets-long held)
