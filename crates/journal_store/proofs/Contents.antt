-- What a flush's writes leave of a content, whole or torn.
use Rattle.std.proofs.Common.{◌≡◌, ℕ, ◌+◌, ◌<◌, ◌≤◌, List, [], ◌∷◌, ◌++◌, length, take, drop, get_or, refl, sym, ◌∙◌, ap, arith, append_assoc, length-append, length-drop, take-append-drop}
use Rattle.std.proofs.lemmas.List.{take_at, drop_at, drop_more, same_lists, get_or-drop, get_or_default}
use Rattle.disk_port.specs.Contents.{written, Torn}
use Rattle.disk_port.proofs.Tearing.{torn-front}
use Rattle.journal_store.specs.Batches.{open_batch, batch_bytes}
use Rattle.journal_store.specs.Gates.{Begins, Rests, Stages, Opens, behind}
use Rattle.request_text.specs.declared.entry.Entry.{Entry}

-- the front of a content, and the rest of another with the same front
split_front : (text d c more : List ℕ) (n : ℕ) → d ≡ text ++ more → length text ≡ n → take n c ≡ take n d → c ≡ text ++ drop n c
split_front text d c more n is long same =
    sym (take-append-drop n c) ∙ ap (λ (l : List ℕ). l ++ drop n c) (same ∙ ap (take n) is ∙ take_at text more n long)

-- a gate counts as part of the text before it
with_gate : (text more : List ℕ) (gate : ℕ) → text ++ gate ∷ more ≡ (text ++ gate ∷ []) ++ more
with_gate text more gate = sym (append_assoc text (gate ∷ []) more)

length-with_gate : (text : List ℕ) (gate : ℕ) → length (text ++ gate ∷ []) ≡ length text + 1
length-with_gate text gate = length-append text (gate ∷ [])

length-gated : (text more : List ℕ) (gate : ℕ) → length (text ++ gate ∷ more) ≡ length text + 1 + length more
length-gated text more gate = omega (arith, length-append text (gate ∷ more))

-- a text stays if something is written behind it
pub begins-torn : (text d c : List ℕ) (n : ℕ) → Begins text d → Torn (length text) n d c → Begins text c
begins-torn text d c n begins torn =
    let long : length text ≤ length d = omega (arith, ap length begins.is, length-append text begins.rest) in
    record { rest = drop (length text) c; is = split_front text d c begins.rest (length text) begins.is refl (torn-front (length text) n (length text) d c torn (omega arith) long) }

-- and so does a closed gate behind it
pub rests-torn : (text d c : List ℕ) (n : ℕ) → Rests text d → Torn (length text + 1) n d c → Rests text c
rests-torn text d c n rests torn =
    let p = length text + 1 in
    let long : p ≤ length d = omega (arith, ap length rests.is, length-gated text rests.rest rests.gate) in
    let is : d ≡ (text ++ rests.gate ∷ []) ++ rests.rest = rests.is ∙ with_gate text rests.rest rests.gate in
    record {
      gate = rests.gate;
      shut = rests.shut;
      rest = drop p c;
      is = split_front (text ++ rests.gate ∷ []) d c rests.rest p is (length-with_gate text rests.gate) (torn-front p n p d c torn (omega arith) long)
          ∙ sym (with_gate text (drop p c) rests.gate);
    }

-- what is written behind the gate stands there
pub staged-behind : (text bytes d : List ℕ) → Rests text d → Stages text bytes (written d (length text + 1) bytes)
staged-behind text bytes d rests =
    let p = length text + 1 in
    let is : d ≡ (text ++ rests.gate ∷ []) ++ rests.rest = rests.is ∙ with_gate text rests.rest rests.gate in
    let front : take p d ≡ text ++ rests.gate ∷ [] = ap (take p) is ∙ take_at (text ++ rests.gate ∷ []) rests.rest p (length-with_gate text rests.gate) in
    let more = drop (p + length bytes) d in
    record {
      gate = rests.gate;
      rest = more;
      is = ap (λ (l : List ℕ). l ++ bytes ++ more) front ∙ append_assoc (text ++ rests.gate ∷ []) bytes more ∙ sym (with_gate text (bytes ++ more) rests.gate);
    }

-- and so does what is written with the gate
pub staged-whole : (text bytes d : List ℕ) → Begins text d → Stages text bytes (written d (length text) (0 ∷ bytes))
staged-whole text bytes d begins =
    let more = drop (length text + length (0 ∷ bytes)) d in
    record {
      gate = 0;
      rest = more;
      is = ap (λ (l : List ℕ). l ++ (0 ∷ bytes) ++ more) (ap (take (length text)) begins.is ∙ take_at text begins.rest (length text) refl) ∙ append_assoc text (0 ∷ bytes) more;
    }

-- two contents of one length that agree from a place on have the same rest
same_rest : (p : ℕ) (xs ys : List ℕ) → length ys ≡ length xs → ((i : ℕ) → i < length xs → p ≤ i → get_or ys i 0 ≡ get_or xs i 0) → drop p ys ≡ drop p xs
same_rest p xs ys long same =
    same_lists (drop p ys) (drop p xs) (omega (arith, length-drop p ys, length-drop p xs))
    (λ k d h.
    let within : p + k < length xs = omega (arith, length-drop p ys) in
    get_or-drop p ys k d ∙ get_or_default ys (p + k) d 0 (omega arith) ∙ same (p + k) within (omega arith) ∙ get_or_default xs (p + k) 0 d within ∙ sym (get_or-drop p xs k d))

-- of what stands behind a gate a write of the gate tears nothing
pub stages-torn : (text bytes d c : List ℕ) → Stages text bytes d → Torn (length text) 1 d c → Stages text bytes c
stages-torn text bytes d c stages torn =
    let n = length text in
    let more = bytes ++ stages.rest in
    let long : n + 1 ≤ length d = omega (arith, ap length stages.is, length-gated text more stages.gate) in
    let same : length c ≡ length d = omega (arith, torn.no_shorter, torn.no_longer) in
    let rest : drop (n + 1) c ≡ more =
    same_rest (n + 1) d c same torn.above ∙ ap (drop (n + 1)) (stages.is ∙ with_gate text more stages.gate) ∙ drop_at (text ++ stages.gate ∷ []) more (n + 1) (length-with_gate text stages.gate) in
    record {
      gate = get_or c n 0;
      rest = stages.rest;
      is = split_front text d c (stages.gate ∷ more) n stages.is refl (torn-front n 1 n d c torn (omega arith) (omega arith))
          ∙ ap (λ (l : List ℕ). text ++ l) (drop_more c n 0 (omega arith) ∙ ap (λ (l : List ℕ). get_or c n 0 ∷ l) rest);
    }

-- and a write of the whole gate opens it
pub opens-written : (text bytes d : List ℕ) → Stages text bytes d → Opens text bytes (written d (length text) (1 ∷ []))
opens-written text bytes d stages =
    let n = length text in
    let more = bytes ++ stages.rest in
    let rest : drop (n + 1) d ≡ more = ap (drop (n + 1)) (stages.is ∙ with_gate text more stages.gate) ∙ drop_at (text ++ stages.gate ∷ []) more (n + 1) (length-with_gate text stages.gate) in
    record {
      rest = stages.rest;
      is = ap (λ (l : List ℕ). l ++ (1 ∷ []) ++ drop (n + 1) d) (ap (take n) stages.is ∙ take_at text (stages.gate ∷ more) n refl)
          ∙ append_assoc text (1 ∷ []) (drop (n + 1) d)
          ∙ ap (λ (l : List ℕ). text ++ 1 ∷ l) rest;
    }

-- behind an open batch stands a closed gate
pub rests-opened : (text : List ℕ) (entries : List Entry) (c : List ℕ) → Opens text (behind entries) c → Rests (text ++ open_batch entries) c
rests-opened text entries c opens = record {
  gate = 0;
  shut = omega arith;
  rest = opens.rest;
  is = opens.is
      ∙ ap (λ (l : List ℕ). text ++ 1 ∷ l) (append_assoc (batch_bytes entries) (0 ∷ []) opens.rest)
      ∙ sym (append_assoc text (open_batch entries) (0 ∷ opens.rest));
}

-- what stands behind a gate that is open
pub opens-staged : (text bytes c : List ℕ) (stages : Stages text bytes c) → stages.gate ≡ 1 → Opens text bytes c
opens-staged text bytes c stages is = record { rest = stages.rest; is = stages.is ∙ ap (λ gate. text ++ gate ∷ (bytes ++ stages.rest)) is }

pub rests-staged : (text bytes c : List ℕ) (stages : Stages text bytes c) → (stages.gate ≡ 1 → ⊥) → Rests text c
rests-staged text bytes c stages shut = record { gate = stages.gate; shut = shut; rest = bytes ++ stages.rest; is = stages.is }
