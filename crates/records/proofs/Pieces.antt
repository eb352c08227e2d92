-- Bytes that are written piece by piece.
use Rattle.std.proofs.Common.{◌≡◌, ℕ, ◌+◌, ◌<◌, codes, List, [], ◌∷◌, ◌++◌, length, take, get_or, replicate, refl, sym, ◌∙◌, ap}
use Rattle.std.specs.List.{flat_map}
use Rattle.std.proofs.lemmas.List.{flat_map_more, take_more, append_assoc, append-nil}
use Rattle.records.specs.Columns.{order_of, load_of}
use Rattle.records.specs.Entries.{u32, joined, head_bytes, order_bytes, load_bytes, head_of, entry_bytes}
use Rattle.request_text.specs.declared.entry.Entry.{Entry}

-- one count more
pub ship_more : (old : List ℕ) (ships : List ℕ) (i count : ℕ) → i < length ships → count ≡ get_or ships i 0 → (old ++ flat_map u32 (take i ships)) ++ u32 count ≡ old ++ flat_map u32 (take (i + 1) ships)
ship_more old ships i count within is =
    ap (λ n. (old ++ flat_map u32 (take i ships)) ++ u32 n) is ∙ flat_map_more u32 old (take i ships) (get_or ships i 0) ∙ ap (λ (l : List ℕ). old ++ flat_map u32 l) (sym (take_more ships i 0 within))

-- 3 pieces
pub three_pieces : (s0 s1 s2 s3 a b c : List ℕ) → s1 ≡ s0 ++ a → s2 ≡ s1 ++ b → s3 ≡ s2 ++ c → s3 ≡ s0 ++ joined (a ∷ b ∷ c ∷ [])
three_pieces s0 s1 s2 s3 a b c e1 e2 e3 =
    (e3 ∙ ap (λ (l : List ℕ). l ++ c) (e2 ∙ ap (λ (l : List ℕ). l ++ b) e1)) ∙ simp (append_assoc, append-nil)

-- 4 pieces
pub four_pieces : (s0 s1 s2 s3 s4 a b c d : List ℕ) → s1 ≡ s0 ++ a → s2 ≡ s1 ++ b → s3 ≡ s2 ++ c → s4 ≡ s3 ++ d → s4 ≡ s0 ++ joined (a ∷ b ∷ c ∷ d ∷ [])
four_pieces s0 s1 s2 s3 s4 a b c d e1 e2 e3 e4 =
    (e4 ∙ ap (λ (l : List ℕ). l ++ d) (e3 ∙ ap (λ (l : List ℕ). l ++ c) (e2 ∙ ap (λ (l : List ℕ). l ++ b) e1))) ∙ simp (append_assoc, append-nil)

-- 6 pieces
pub six_pieces : (s0 s1 s2 s3 s4 s5 s6 a b c d e f : List ℕ) → s1 ≡ s0 ++ a → s2 ≡ s1 ++ b → s3 ≡ s2 ++ c → s4 ≡ s3 ++ d → s5 ≡ s4 ++ e → s6 ≡ s5 ++ f → s6 ≡ s0 ++ joined (a ∷ b ∷ c ∷ d ∷ e ∷ f ∷ [])
six_pieces s0 s1 s2 s3 s4 s5 s6 a b c d e f e1 e2 e3 e4 e5 e6 =
    (e6 ∙ ap (λ (l : List ℕ). l ++ f) (e5 ∙ ap (λ (l : List ℕ). l ++ e) (e4 ∙ ap (λ (l : List ℕ). l ++ d) (e3 ∙ ap (λ (l : List ℕ). l ++ c) (e2 ∙ ap (λ (l : List ℕ). l ++ b) e1))))) ∙ simp (append_assoc, append-nil)

-- 7 pieces
pub seven_pieces : (s0 s1 s2 s3 s4 s5 s6 s7 a b c d e f g : List ℕ) → s1 ≡ s0 ++ a → s2 ≡ s1 ++ b → s3 ≡ s2 ++ c → s4 ≡ s3 ++ d → s5 ≡ s4 ++ e → s6 ≡ s5 ++ f → s7 ≡ s6 ++ g → s7 ≡ s0 ++ joined (a ∷ b ∷ c ∷ d ∷ e ∷ f ∷ g ∷ [])
seven_pieces s0 s1 s2 s3 s4 s5 s6 s7 a b c d e f g e1 e2 e3 e4 e5 e6 e7 =
    (e7 ∙ ap (λ (l : List ℕ). l ++ g) (e6 ∙ ap (λ (l : List ℕ). l ++ f) (e5 ∙ ap (λ (l : List ℕ). l ++ e) (e4 ∙ ap (λ (l : List ℕ). l ++ d) (e3 ∙ ap (λ (l : List ℕ). l ++ c) (e2 ∙ ap (λ (l : List ℕ). l ++ b) e1)))))) ∙ simp (append_assoc, append-nil)

-- the bytes of an entry
pub whole_entry : (s0 s1 s2 s3 s4 : List ℕ) (entry : Entry) → s0 ≡ [] → s1 ≡ s0 ++ head_bytes (head_of entry) → s2 ≡ s1 ++ order_bytes (order_of entry.req) → s3 ≡ s2 ++ load_bytes (load_of entry.req)
    → s4 ≡ s3 ++ replicate 124 0 → s4 ≡ entry_bytes entry
unfolding entry_bytes
whole_entry s0 s1 s2 s3 s4 entry e0 e1 e2 e3 e4 =
    four_pieces s0 s1 s2 s3 s4 (head_bytes (head_of entry)) (order_bytes (order_of entry.req)) (load_bytes (load_of entry.req)) (replicate 124 0) e1 e2 e3 e4
    ∙ ap (λ (l : List ℕ). l ++ joined (head_bytes (head_of entry) ∷ order_bytes (order_of entry.req) ∷ load_bytes (load_of entry.req) ∷ replicate 124 0 ∷ [])) e0

-- 3 pieces and what stands behind them
pub open_3 : (a b c more : List ℕ) → joined (a ∷ b ∷ c ∷ []) ++ more ≡ a ++ (b ++ (c ++ more))
open_3 a b c more = simp append_assoc

-- 4 pieces and what stands behind them
pub open_4 : (a b c d more : List ℕ) → joined (a ∷ b ∷ c ∷ d ∷ []) ++ more ≡ a ++ (b ++ (c ++ (d ++ more)))
open_4 a b c d more = simp append_assoc

-- 6 pieces and what stands behind them
pub open_6 : (a b c d e f more : List ℕ) → joined (a ∷ b ∷ c ∷ d ∷ e ∷ f ∷ []) ++ more ≡ a ++ (b ++ (c ++ (d ++ (e ++ (f ++ more)))))
open_6 a b c d e f more = simp append_assoc

-- 7 pieces and what stands behind them
pub open_7 : (a b c d e f g more : List ℕ) → joined (a ∷ b ∷ c ∷ d ∷ e ∷ f ∷ g ∷ []) ++ more ≡ a ++ (b ++ (c ++ (d ++ (e ++ (f ++ (g ++ more))))))
open_7 a b c d e f g more = simp append_assoc

-- the mark is the number that stands for it
pub mark_is : codes "OGE1" ≡ u32 1330070833
unfolding u32
mark_is = refl

-- the parts of an entry's bytes
pub entry_parts : (entry : Entry) → entry_bytes entry ≡ joined (head_bytes (head_of entry) ∷ order_bytes (order_of entry.req) ∷ load_bytes (load_of entry.req) ∷ replicate 124 0 ∷ [])
unfolding entry_bytes
entry_parts entry = refl
