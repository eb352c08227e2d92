-- What each step leaves of a token's view.
use Rattle.std.proofs.Common.{◌≡◌, ◌≢◌, ◌≤◌, Bool, true, false, List, [], ◌∷◌, ◌++◌, length, refl, sym, ap, ◌∙◌, subst, arith}
use Rattle.std.specs.Prelude.{Contains, nat_lt}
use Rattle.std.proofs.lemmas.Bool.Decides.{nat_tests}
use Rattle.request_text.specs.declared.entry.Entry.{Entry}
use Rattle.fronts.specs.declared.claim.Claim.{Claim}
use Rattle.fronts.specs.declared.claim.Claim.TheVariants.{Number}
use Rattle.fronts.specs.declared.view.View.{View}
use Rattle.fronts.specs.Start.{Start}
use Rattle.fronts.specs.History.{IsBounded, IsHistory, calls_by, entries_of}
use Rattle.fronts.specs.Claims.{Follows}
use Rattle.fronts.specs.Tokens.{IsNote, IsPass, IsToken, Unites}
use Rattle.fronts.specs.Views.{appended, as_one, both, united, own_calls, with_claim_given, with_front}
use Rattle.fronts.specs.Calls.{KeepsCalls}
use Rattle.fronts.proofs.Following.{calls_stay, follows_self, history_more}
use Rattle.fronts.proofs.Owning.{left_if_other}

module _ (start : Start) where
  -- a token remembers nothing, so it has nothing to forget
  pub nothing_to_forget : (v : View) → IsToken start v → with_front v v.front ≡ v
  nothing_to_forget v t i = record v { heard = sym t.nothing_heard i; kept = sym t.nothing_kept i }

  pub token_with_front : (v w : View) → w ≡ with_front v w.front → IsHistory start w.front → IsToken start w
  token_with_front v w is h = record { is_history = h; nothing_heard = ap (λ (u : View). u.heard) is; nothing_kept = ap (λ (u : View). u.kept) is }

  pub token_appended : (v w : View) (entry : Entry) → w ≡ appended v entry → IsToken start v → v.number ≢ 0 → IsBounded start (entries_of v.front ++ entry ∷ []) → IsToken start w
  token_appended v w entry is t some bounded =
      subst (IsToken start) (sym is) (record { is_history = history_more start v.front v.number entry t.is_history some bounded; nothing_heard = refl; nothing_kept = refl })

  history_of_one : (b : Bool) (v w : View) → IsToken start v → IsToken start w → IsHistory start (as_one b v w).front
  history_of_one true v w t u = u.is_history
  history_of_one false v w t u = t.is_history

  pub token_united : (v w : View) → IsToken start v → IsToken start w → IsToken start (united v w)
  token_united v w t u = record { is_history = history_of_one (nat_lt (length v.front) (length w.front)) v w t u; nothing_heard = refl; nothing_kept = refl }

  -- both fronts are beginnings of the longer one
  unites_one : (b : Bool) (v w : View) → nat_lt (length v.front) (length w.front) ≡ b
      → (length (as_one b v w).heard ≤ length (as_one b v w).front → Follows start (as_one b v w).kept (as_one b v w).heard (as_one b v w).front) → Unites start v w (with_front (as_one b v w) (as_one b v w).front)
  unites_one true v w is heard = record { first = heard (grind (arith, nat_tests)); second = follows_self start w.claims w.front }
  unites_one false v w is heard = record { first = follows_self start v.claims v.front; second = heard (grind (arith, nat_tests)) }

  pub unites : (v w : View) → (length (both v w).heard ≤ length (both v w).front → Follows start (both v w).kept (both v w).heard (both v w).front) → Unites start v w (united v w)
  unites v w heard = unites_one (nat_lt (length v.front) (length w.front)) v w refl heard

  pub pass_with_front : (v w : View) → w ≡ with_front v w.front → IsHistory start w.front → IsPass start v → IsPass start w
  pass_with_front v w is h p =
      let number : w.number ≡ v.number = ap (λ (u : View). u.number) is in
      let claims : w.claims ≡ v.claims = ap (λ (u : View). u.claims) is in record {
        is_token = token_with_front v w is h;
        some_number = λ none. p.some_number (sym number ∙ none);
        own_number = subst (λ (cs : List Claim). Contains cs (Number w.number)) (sym claims) (subst (λ n. Contains v.claims (Number n)) (sym number) p.own_number);
      }

  pub note_with_front : (v w : View) → w ≡ with_front v w.front → IsHistory start w.front → IsNote start v → IsNote start w
  note_with_front v w is h n = record { is_token = token_with_front v w is h; no_number = ap (λ (u : View). u.number) is ∙ n.no_number; no_next = ap (λ (u : View). u.next) is ∙ n.no_next }

  -- an appended entry is a longer front
  pub front_appended : (v w : View) (entry : Entry) → w ≡ appended v entry → w ≡ with_front v w.front
  front_appended v w entry is = is ∙ ap (with_front v) (sym (ap (λ (u : View). u.front) is))

  pub pass_given : (v w : View) (claim : Claim) → w ≡ with_claim_given claim v → claim ≢ Number v.number → IsPass start v → IsPass start w
  pass_given v w claim is other p =
      subst (IsPass start) (sym is) (record {
        is_token = record { is_history = p.is_token.is_history; nothing_heard = refl; nothing_kept = refl };
        some_number = p.some_number;
        own_number = left_if_other claim v.claims (Number v.number) p.own_number other;
      })

  pub keeps_calls : (v w : View) → Follows start v.claims v.front w.front → KeepsCalls v w
  keeps_calls v w f n h = calls_stay start v.claims n v.front w.front h f

  -- a pass keeps its number and its own calls
  pub own_calls_stay : (v w : View) → IsPass start v → w.number ≡ v.number → KeepsCalls v w → own_calls w ≡ own_calls v
  own_calls_stay v w p number keeps = ap (λ n. calls_by n w.front) number ∙ keeps v.number p.own_number
