-- How many bytes there are.
use Rattle.std.proofs.Common.{◌≡◌, ℕ, ◌+◌, ◌*◌, List, [], ◌∷◌, length, replicate, refl, ◌∙◌, ap, arith, length-append}
use Rattle.std.specs.List.{flat_map}
use Rattle.std.proofs.lemmas.List.{length-replicate}
use Rattle.journal_store.specs.Batches.{open_batch}
use Rattle.records.specs.Columns.{order_of, load_of}
use Rattle.records.specs.Entries.{u16, u32, u64, joined, head_of, head_bytes, order_bytes, load_bytes, place_bytes, entry_bytes}
use Rattle.records.specs.declared.fields.Head.{Head}
use Rattle.records.specs.declared.fields.Load.{Load}
use Rattle.records.specs.declared.fields.Order.{Order}
use Rattle.records.specs.declared.fields.Place.{Place}
use Rattle.records.proofs.Fitting.{load_fits}
use Rattle.records.proofs.Pieces.{entry_parts}
use Rattle.request_text.specs.declared.entry.Entry.{Entry}

length-u16 : (n : ℕ) → length (u16 n) ≡ 2
unfolding u16
length-u16 n = refl

length-u32 : (n : ℕ) → length (u32 n) ≡ 4
unfolding u32
length-u32 n = refl

length-u64 : (n : ℕ) → length (u64 n) ≡ 8
unfolding u64
length-u64 n = refl

length-counts : (counts : List ℕ) → length (flat_map u32 counts) ≡ 4 * length counts
length-counts [] = refl
length-counts (count ∷ counts) = omega (arith, length-append (u32 count) (flat_map u32 counts), length-u32 count, length-counts counts)

length-place : (at : Place) → length (place_bytes at) ≡ 4
length-place at = simp (length-append, length-u16) refl

length-head : (head : Head) → length (head_bytes head) ≡ 33
length-head head = simp (length-append, length-u64, length-u32) refl

length-order : (order : Order) → length (order_bytes order) ≡ 23
length-order order = simp (length-append, length-u64, length-u32, length-u16) refl

length-load : (load : Load) → length load.ships ≡ 13 → length (load_bytes load) ≡ 76
length-load load ships = simp (length-append, length-u64, length-counts, ships) refl

length-four : (a b c d : List ℕ) → length a ≡ 33 → length b ≡ 23 → length c ≡ 76 → length d ≡ 124 → length (joined (a ∷ b ∷ c ∷ d ∷ [])) ≡ 256
length-four a b c d first second third fourth =
    omega (arith, length-append a (joined (b ∷ c ∷ d ∷ [])), length-append b (joined (c ∷ d ∷ [])), length-append c (joined (d ∷ [])), length-append d [])

pub length-entry : (entry : Entry) → length (entry_bytes entry) ≡ 256
length-entry entry =
    let head = head_of entry in
    let order = order_of entry.req in
    let load = load_of entry.req in
    ap length (entry_parts entry)
    ∙ length-four (head_bytes head) (order_bytes order) (load_bytes load) (replicate 124 0) (length-head head) (length-order order) (length-load load (load_fits entry.req).ships.size) (length-replicate {A = ℕ} 124 0)

pub length-entries : (entries : List Entry) → length (flat_map entry_bytes entries) ≡ 256 * length entries
length-entries [] = refl
length-entries (entry ∷ entries) = omega (arith, length-append (entry_bytes entry) (flat_map entry_bytes entries), length-entry entry, length-entries entries)

pub length-open : (entries : List Entry) → length (open_batch entries) ≡ 2 + 256 * length entries
length-open entries = omega (arith, length-entries entries)
