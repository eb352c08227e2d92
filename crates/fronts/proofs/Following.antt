-- Histories that go on from a front, and claims that concern nothing of what came.
use Rattle.std.proofs.Common.{◌≡◌, ◌≢◌, ◌⊎◌, ℕ, ◌+◌, ◌<◌, ◌≤◌, Bool, true, false, List, [], ◌∷◌, ◌++◌, length, map, inl, inr, ⊎_elim, refl, sym, ap, ◌∙◌, subst, arith, append_assoc, length-append, eqb, ne_eqb}
use Rattle.std.specs.Prelude.{Contains, All, filter, ◌==◌}
use Rattle.std.proofs.lemmas.List.{append-nil, map-append}
use Rattle.std.proofs.lemmas.List.Elements.{Contains-append_cases, filter-append, All-push}
use Rattle.request_text.specs.declared.entry.Entry.{Entry}
use Rattle.fronts.specs.declared.claim.Claim.{Claim}
use Rattle.fronts.specs.declared.claim.Claim.TheVariants.{Pen, Number}
use Rattle.fronts.specs.declared.view.Sent.{Sent}
use Rattle.fronts.specs.Start.{Start}
use Rattle.fronts.specs.History.{IsBounded, IsHistory, calls_by, entries_of, found_by, sent}
use Rattle.fronts.specs.Claims.{Concerns, Follows, IsQuiet}
use Rattle.fronts.proofs.Listed.{all_tail, begins_longer, contains_none, goes_on_by_none}

module _ (start : Start) where
  pub quiet_none : (xs ys : List Sent) → IsQuiet start [] xs ys
  quiet_none xs [] = tt
  quiet_none xs (s ∷ ys) = ((λ c h x. contains_none c h), quiet_none (xs ++ s ∷ []) ys)

  pub quiet_more : (cs : List Claim) (xs ys : List Sent) (s : Sent) → IsQuiet start cs xs ys
      → ((c : Claim) → Contains cs c → Concerns start (xs ++ ys) s c → ⊥) → IsQuiet start cs xs (ys ++ s ∷ [])
  quiet_more cs xs [] s q apart = ((λ c h x. apart c h (subst (λ before. Concerns start before s c) (sym (append-nil xs)) x)), tt)
  quiet_more cs xs (y ∷ ys) s q apart =
      (q.0, quiet_more cs (xs ++ y ∷ []) ys s q.1 (λ c h x. apart c h (subst (λ before. Concerns start before s c) (append_assoc xs (y ∷ []) ys) x)))

  pub quiet_fewer : (cs ds : List Claim) → ((c : Claim) → Contains ds c → Contains cs c) → (xs ys : List Sent) → IsQuiet start cs xs ys → IsQuiet start ds xs ys
  quiet_fewer cs ds within xs [] q = tt
  quiet_fewer cs ds within xs (s ∷ ys) q = ((λ c h x. q.0 c (within c h) x), quiet_fewer cs ds within (xs ++ s ∷ []) ys q.1)

  pub quiet_both : (cs ds : List Claim) (xs ys : List Sent) → IsQuiet start cs xs ys → IsQuiet start ds xs ys → IsQuiet start (cs ++ ds) xs ys
  quiet_both cs ds xs [] p q = tt
  quiet_both cs ds xs (s ∷ ys) p q =
      ((λ c h x. ⊎_elim (λ l. p.0 c l x) (λ r. q.0 c r x) (Contains-append_cases cs ds c h)), quiet_both cs ds (xs ++ s ∷ []) ys p.1 q.1)

  pub quiet_front : (cs : List Claim) (xs ys zs : List Sent) → IsQuiet start cs xs (ys ++ zs) → IsQuiet start cs xs ys
  quiet_front cs xs [] zs q = tt
  quiet_front cs xs (s ∷ ys) zs q = (q.0, quiet_front cs (xs ++ s ∷ []) ys zs q.1)

  pub quiet_rest : (cs : List Claim) (xs ys zs : List Sent) → IsQuiet start cs xs (ys ++ zs) → IsQuiet start cs (xs ++ ys) zs
  quiet_rest cs xs [] zs q = subst (λ before. IsQuiet start cs before zs) (sym (append-nil xs)) q
  quiet_rest cs xs (s ∷ ys) zs q =
      subst (λ before. IsQuiet start cs before zs) (append_assoc xs (s ∷ []) ys) (quiet_rest cs (xs ++ s ∷ []) ys zs q.1)

  pub quiet_then : (cs : List Claim) (xs ys zs : List Sent) → IsQuiet start cs xs ys → IsQuiet start cs (xs ++ ys) zs → IsQuiet start cs xs (ys ++ zs)
  quiet_then cs xs [] zs p q = subst (λ before. IsQuiet start cs before zs) (append-nil xs) q
  quiet_then cs xs (s ∷ ys) zs p q =
      (p.0, quiet_then cs (xs ++ s ∷ []) ys zs p.1 (subst (λ before. IsQuiet start cs before zs) (sym (append_assoc xs (s ∷ []) ys)) q))

  pub follows_self : (cs : List Claim) (xs : List Sent) → Follows start cs xs xs
  follows_self cs xs = record { later = []; begins = append-nil xs; quiet = tt }

  pub follows_none : (xs : List Sent) → Follows start [] [] xs
  follows_none xs = record { later = xs; begins = refl; quiet = quiet_none [] xs }

  pub follows_fewer : (cs ds : List Claim) (xs ys : List Sent) → ((c : Claim) → Contains ds c → Contains cs c) → Follows start cs xs ys → Follows start ds xs ys
  follows_fewer cs ds xs ys within f = record { later = f.later; begins = f.begins; quiet = quiet_fewer cs ds within xs f.later f.quiet }

  pub follows_both : (cs ds : List Claim) (xs ys : List Sent) → Follows start cs xs ys → Follows start ds xs ys → Follows start (cs ++ ds) xs ys
  follows_both cs ds xs ys f g =
      let between = begins_longer xs xs g.later f.later (g.begins ∙ sym f.begins) (omega arith) in
      let same : g.later ≡ f.later = between.2 ∙ ap (λ l. l ++ f.later) (goes_on_by_none xs between.0 xs between.1 (omega arith)) in
      record { later = f.later; begins = f.begins; quiet = quiet_both cs ds xs f.later f.quiet (subst (IsQuiet start ds xs) same g.quiet) }

  -- one entry more, which the claims don't concern
  pub follows_more : (cs : List Claim) (xs ys : List Sent) (s : Sent) → Follows start cs xs ys
      → ((c : Claim) → Contains cs c → Concerns start ys s c → ⊥) → Follows start cs xs (ys ++ s ∷ [])
  follows_more cs xs ys s f apart = record {
    later = f.later ++ s ∷ [];
    begins = sym (append_assoc xs f.later (s ∷ [])) ∙ ap (λ l. l ++ s ∷ []) f.begins;
    quiet = quiet_more cs xs f.later s f.quiet (λ c h x. apart c h (subst (λ before. Concerns start before s c) f.begins x));
  }

  pub follows_then : (cs : List Claim) (xs ys zs : List Sent) → Follows start cs xs ys → Follows start cs ys zs → Follows start cs xs zs
  follows_then cs xs ys zs f g = record {
    later = f.later ++ g.later;
    begins = sym (append_assoc xs f.later g.later) ∙ ap (λ l. l ++ g.later) f.begins ∙ g.begins;
    quiet = quiet_then cs xs f.later g.later f.quiet (subst (λ before. IsQuiet start cs before g.later) (sym f.begins) g.quiet);
  }

  pub follows_length : (cs : List Claim) (xs ys : List Sent) → Follows start cs xs ys → length xs ≤ length ys
  follows_length cs xs ys f = omega (arith, ap length f.begins, length-append xs f.later)

  -- of two fronts of one history the shorter begins the longer
  pub follows_within : (cs ds : List Claim) (xs ys zs : List Sent) → Follows start cs xs zs → Follows start ds ys zs → length xs ≤ length ys → Follows start cs xs ys
  follows_within cs ds xs ys zs f g less =
      let between = begins_longer xs ys f.later g.later (f.begins ∙ sym g.begins) less in
      record { later = between.0; begins = between.1; quiet = quiet_front cs xs between.0 g.later (subst (IsQuiet start cs xs) between.2 f.quiet) }

  -- and what claims don't concern after the shorter, they don't concern after the longer
  pub follows_longer : (cs ds : List Claim) (xs ys zs : List Sent) → Follows start cs xs zs → Follows start ds ys zs → length xs ≤ length ys → Follows start cs ys zs
  follows_longer cs ds xs ys zs f g less =
      let between = begins_longer xs ys f.later g.later (f.begins ∙ sym g.begins) less in
      let rest = quiet_rest cs xs between.0 g.later (subst (IsQuiet start cs xs) between.2 f.quiet) in
      record { later = g.later; begins = g.begins; quiet = subst (λ before. IsQuiet start cs before g.later) between.1 rest }

  none_after : (cs : List Claim) (xs ys : List Sent) → Contains cs Pen → IsQuiet start cs xs ys → ys ≡ []
  none_after cs xs [] pen q = refl
  none_after cs xs (s ∷ ys) pen q = absurd (q.0 Pen pen tt)

  -- whoever has the pen has seen the whole history
  pub pen_sees_all : (cs : List Claim) (xs ys : List Sent) → Contains cs Pen → Follows start cs xs ys → xs ≡ ys
  pen_sees_all cs xs ys pen f =
      sym (append-nil xs) ∙ ap (λ l. xs ++ l) (sym (none_after cs xs f.later pen f.quiet)) ∙ f.begins

  no_calls : (cs : List Claim) (n : ℕ) (xs ys : List Sent) → Contains cs (Number n) → IsQuiet start cs xs ys → filter (λ (s : Sent). s.pass == n) ys ≡ []
  no_calls cs n xs [] h q = refl
  no_calls cs n xs (s ∷ ys) h q =
      let off : (s.pass == n) ≡ false = ne_eqb s.pass n (q.0 (Number n) h) in
      rw off (no_calls cs n (xs ++ s ∷ []) ys h q.1)

  -- the calls of a pass stay as they are for whoever has its number
  pub calls_stay : (cs : List Claim) (n : ℕ) (xs ys : List Sent) → Contains cs (Number n) → Follows start cs xs ys → calls_by n ys ≡ calls_by n xs
  calls_stay cs n xs ys h f =
      let p : Sent → Bool = λ s. s.pass == n in
      let all : filter p ys ≡ filter p xs = sym (ap (filter p) f.begins) ∙ filter-append p xs f.later ∙ ap (λ l. filter p xs ++ l) (no_calls cs n xs f.later h f.quiet) ∙ append-nil (filter p xs) in
      ap entries_of all

-- a number above those of all entries has no calls
pub no_calls_yet : (n : ℕ) (xs : List Sent) → All (λ s. s.pass < n) xs → calls_by n xs ≡ []
no_calls_yet n [] h = refl
no_calls_yet n (s ∷ xs) h =
    let less : s.pass < n = h 0 s (omega arith) in
    let off : (s.pass == n) ≡ false = ne_eqb s.pass n (λ e. omega arith) in
    rw off (no_calls_yet n xs (all_tail (λ (x : Sent). x.pass < n) s xs h))

pub entries_more : (xs : List Sent) (s : Sent) → entries_of (xs ++ s ∷ []) ≡ entries_of xs ++ s.entry ∷ []
entries_more xs s = map-append (λ (x : Sent). x.entry) xs (s ∷ [])

-- one entry more is one more call of its pass
pub calls_more : (n : ℕ) (xs : List Sent) (e : Entry) → calls_by n (xs ++ sent n e ∷ []) ≡ calls_by n xs ++ e ∷ []
calls_more n xs e =
    let p : Sent → Bool = λ s. s.pass == n in
    let same : (n == n) ≡ true = Rattle.std.proofs.Common.eq-eqb n n refl in
    let one : filter p (sent n e ∷ []) ≡ sent n e ∷ [] = rw same refl in
    let all : filter p (xs ++ sent n e ∷ []) ≡ filter p xs ++ sent n e ∷ [] = filter-append p xs (sent n e ∷ []) ∙ ap (λ l. filter p xs ++ l) one in
    ap entries_of all ∙ entries_more (filter p xs) (sent n e)

pub history_more : (start : Start) (xs : List Sent) (n : ℕ) (e : Entry) → IsHistory start xs → n ≢ 0 → IsBounded start (entries_of xs ++ e ∷ []) → IsHistory start (xs ++ sent n e ∷ [])
history_more start xs n e h some_pass bounded = record {
  bounded = subst (IsBounded start) (sym (entries_more xs (sent n e))) bounded;
  later = h.later ++ sent n e ∷ [];
  begins = sym (append_assoc (found_by start) h.later (sent n e ∷ [])) ∙ ap (λ l. l ++ sent n e ∷ []) h.begins;
  passes = All-push (λ (s : Sent). s.pass ≢ 0) h.later (sent n e) h.passes some_pass;
}
