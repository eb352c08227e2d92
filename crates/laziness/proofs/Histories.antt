-- The lazy universe stands for the ticking one after every history, and answers as it does.
use Rattle.std.proofs.Common.{◌≡◌, ℕ, zero, suc, ◌+◌, ◌-◌, ◌≤◌, inl, inr, false, cond, List, [], ◌∷◌, ◌++◌, arith, refl, ap, ◌∙◌, sym, subst, append_assoc, append-nil}
use Rattle.std.proofs.Math.Path.{fun_ext}
use Rattle.laziness.specs.Model.{Model}
use Rattle.laziness.specs.Laws.{ModelLaws}
use Rattle.laziness.specs.Closing.{closing}
use Rattle.laziness.specs.World.{Base, IsBase, InOrder, last_moment, ticked, world, world_reply}
use Rattle.laziness.specs.Stamps.{Stamps}
use Rattle.laziness.specs.Lazy.{touched, prepared, lazily, lazily_all, stamped, lazy, lazy_reply}
use Rattle.laziness.specs.Touch.{seen_at, touches, last_after, last_touch, StandsFor}
use Rattle.laziness.proofs.Bringing.{test, early}
use Rattle.laziness.proofs.Preparing.{closed-apart, IsPrepared, prepares}
use Rattle.laziness.proofs.Following.{Follows, follows-second, follows-itself}
use Rattle.laziness.proofs.Asking.{meets, follows-asked}
use Rattle.laziness.proofs.Closures.{closing-least}
use Rattle.laziness.proofs.Worlds.{last_moment-more, order-more, order-front, order-rest, rises, ticked-idle, world-base, world-before, world-at}

-- it follows while only seconds pass
idle : (M : Model) → ModelLaws M → (base : Base M) (es : List M.Entry) (f : Stamps M) (n more : ℕ) → InOrder M base.moment es → last_moment M base.moment es ≤ base.moment + n
    → Follows M (base.moment + n) f (ticked M base es n) → Follows M (base.moment + (n + more)) f (ticked M base es (n + more))
idle M L base es f n zero order last follows = let same : n ≡ n + 0 = omega arith in subst (λ k. Follows M (base.moment + k) f (ticked M base es k)) same follows
idle M L base es f n (suc more) order last follows =
    let longer : suc (n + more) ≡ n + suc more = omega arith in
    let next : base.moment + suc (n + more) ≡ (base.moment + (n + more)) + 1 = omega arith in
    let later : last_moment M base.moment es ≤ base.moment + (n + more) = omega (arith, last) in
    subst (λ k. Follows M (base.moment + k) f (ticked M base es k)) longer
    (subst (Follows M (base.moment + suc (n + more)) f) (sym (ticked-idle M base es (n + more) order later))
    (follows-second M L (base.moment + (n + more)) (base.moment + suc (n + more)) f (ticked M base es (n + more)) next (idle M L base es f n more order last follows)))

-- what holds of the lazy universe after a history
pub record Keeps (M : Model) (base : Base M) (history : List M.Entry) (last : M.Id → ℕ) (f : Stamps M) : Type 0 where
  pub order : InOrder M base.moment history
  pub follows : Follows M (last_moment M base.moment history) f (world M base history (last_moment M base.moment history))
  pub since : (x : M.Id) → base.moment ≤ f.at x
  pub second : (x : M.Id) → f.at x ≡ last x
  pub view : (x : M.Id) → M.view f.universe x ≡ M.view (world M base history (f.at x)) x

pub follows-later : (M : Model) → ModelLaws M → (base : Base M) (history : List M.Entry) (last : M.Id → ℕ) (f : Stamps M) (m : ℕ) → Keeps M base history last f → last_moment M base.moment history ≤ m
    → Follows M m f (world M base history m)
follows-later M L base history last f m keeps later =
    let end = last_moment M base.moment history in
    let began : base.moment ≤ end = rises M base.moment history keeps.order in
    let there : base.moment + (end - base.moment) ≡ end = omega (arith, began) in
    let start : Follows M (base.moment + (end - base.moment)) f (world M base history end) = subst (λ t. Follows M t f (world M base history end)) (sym there) keeps.follows in
    let all : (end - base.moment) + (m - end) ≡ m - base.moment = omega (arith, began, later) in
    let now : base.moment + (m - base.moment) ≡ m = omega (arith, began, later) in
    let last_end : end ≤ base.moment + (end - base.moment) = omega (arith, began) in
    subst (λ t. Follows M t f (world M base history m)) now
    (subst (λ k. Follows M (base.moment + k) f (ticked M base history k)) all
    (idle M L base history f (end - base.moment) (m - end) keeps.order last_end start))

pub keeps-base : (M : Model) → ModelLaws M → (base : Base M) → IsBase M base → Keeps M base [] (λ x. base.moment) (stamped M base)
keeps-base M L base is = record {
  order = tt;
  follows = subst (Follows M base.moment (stamped M base)) (sym (world-base M base)) (follows-itself M L base.moment base.universe is.fine is.none);
  since = λ x. omega arith;
  second = λ x. refl;
  view = λ x. ap (λ u. M.view u x) (sym (world-base M base));
}

-- what an entry touches is what it touches by the ticking universe
touches-same : (M : Model) (base : Base M) (history : List M.Entry) (last : M.Id → ℕ) (f : Stamps M) (e : M.Entry) → Keeps M base history last f → touched M f e ≡ touches M base history last e
touches-same M base history last f e keeps =
    let seen : M.view f.universe ≡ seen_at M base history last = fun_ext (λ x. keeps.view x ∙ ap (λ s. M.view (world M base history s) x) (keeps.second x)) in
    ap (λ v. closing M v (M.moment_of e) (M.ask_of e)) seen

keeps-next : (M : Model) → ModelLaws M → (base : Base M) (history : List M.Entry) (last : M.Id → ℕ) (f : Stamps M) (e : M.Entry) → Keeps M base history last f → last_moment M base.moment history ≤ M.moment_of e
    → Keeps M base (history ++ e ∷ []) (λ x. cond (touches M base history last e x) (M.moment_of e) (last x)) (lazily M e f)
keeps-next M L base history last f e keeps later =
    let m = M.moment_of e in
    let a = M.ask_of e in
    let S = touched M f e in
    let u = world M base history m in
    let g = lazily M e f in
    let began : base.moment ≤ last_moment M base.moment history = rises M base.moment history keeps.order in
    let since_e : base.moment ≤ m = omega (arith, began, later) in
    let follows = follows-later M L base history last f m keeps later in
    let least = closing-least M L f.universe m a follows.fine in
    let meet = meets M L S m a f u follows least.closed least.covers in
    let prep : IsPrepared M S m f (prepared M e f) =
    prepares M L S m f (record { fine = follows.fine; timely = follows.timely; apart = closed-apart M L S m f follows.fine least.closed }) in
    let acts : world M base (history ++ e ∷ []) m ≡ M.act a m u = world-at M base history e since_e in
    let at_is : (x : M.Id) → g.at x ≡ cond (S x) m (f.at x) = λ x. elim (test (S x)) [
      | inl inside ↦ prep.now x inside ∙ sym (ap (λ b. cond b m (f.at x)) inside)
      | inr outside ↦ prep.at x outside ∙ sym (ap (λ b. cond b m (f.at x)) outside)
    ] in
    let outside_view : (x : M.Id) → S x ≡ false → M.view g.universe x ≡ M.view f.universe x = λ x outside. L.act_outside S m (prepared M e f).universe a x meet.lazy outside ∙ prep.view x outside in
    record {
      order = order-more M base.moment history e keeps.order later;
      follows = subst (λ t. Follows M t g (world M base (history ++ e ∷ []) t)) (sym (last_moment-more M base.moment history e))
          (subst (Follows M m g) (sym acts) (follows-asked M L S m a f u follows least.closed least.covers));
      since = λ x. elim (test (S x)) [
        | inl inside ↦ let now : g.at x ≡ m = prep.now x inside in omega (arith, now, since_e)
        | inr outside ↦ let same : g.at x ≡ f.at x = prep.at x outside in let before : base.moment ≤ f.at x = keeps.since x in omega (arith, same, before)
      ];
      second = λ x. at_is x ∙ (λ i. cond (touches-same M base history last f e keeps i x) m (keeps.second x i));
      view = λ x. elim (test (S x)) [
        | inl inside ↦
            L.act_depends S m (prepared M e f).universe u a meet.lazy meet.ticking meet.count meet.agree x inside
            ∙ ap (λ v. M.view v x) (sym acts)
            ∙ ap (λ t. M.view (world M base (history ++ e ∷ []) t) x) (sym (prep.now x inside))
        | inr outside ↦
            outside_view x outside
            ∙ elim (early m (f.at x)) [
              | inl now ↦
                  let behind : f.at x ≤ m = follows.behind x in
                  let is : f.at x ≡ m = omega (arith, now, behind) in
                  keeps.view x
                  ∙ ap (λ t. M.view (world M base history t) x) is
                  ∙ sym (L.act_outside S m u a x meet.ticking outside)
                  ∙ ap (λ v. M.view v x) (sym acts)
                  ∙ ap (λ t. M.view (world M base (history ++ e ∷ []) t) x) (sym (prep.at x outside ∙ is))
              | inr before ↦
                  keeps.view x
                  ∙ ap (λ v. M.view v x) (sym (world-before M base history e (f.at x) (keeps.since x) before))
                  ∙ ap (λ t. M.view (world M base (history ++ e ∷ []) t) x) (sym (prep.at x outside))
            ]
      ];
    }

keeps-all : (M : Model) → ModelLaws M → (base : Base M) (before later : List M.Entry) (last : M.Id → ℕ) (f : Stamps M) → Keeps M base before last f → InOrder M (last_moment M base.moment before) later
    → Keeps M base (before ++ later) (last_after M base before last later) (lazily_all M later f)
keeps-all M L base before [] last f keeps order = subst (λ h. Keeps M base h last f) (sym (append-nil before)) keeps
keeps-all M L base before (e ∷ later) last f keeps order =
    let next = keeps-next M L base before last f e keeps order.0 in
    let more = subst (λ t. InOrder M t later) (sym (last_moment-more M base.moment before e)) order.1 in
    let last' = λ (x : M.Id). cond (touches M base before last e x) (M.moment_of e) (last x) in
    subst (λ h. Keeps M base h (last_after M base (before ++ e ∷ []) last' later) (lazily_all M later (lazily M e f))) (append_assoc before (e ∷ []) later)
    (keeps-all M L base (before ++ e ∷ []) later last' (lazily M e f) next more)

pub keeps : (M : Model) → ModelLaws M → (base : Base M) (history : List M.Entry) → IsBase M base → InOrder M base.moment history → Keeps M base history (last_touch M base history) (lazy M base history)
keeps M L base history is order = keeps-all M L base [] history (λ x. base.moment) (stamped M base) (keeps-base M L base is) order

-- it stands for the ticking universe
pub lazy-stands : (M : Model) → ModelLaws M → (base : Base M) (history : List M.Entry) → IsBase M base → InOrder M base.moment history → StandsFor M base history (lazy M base history)
lazy-stands M L base history is order = let k = keeps M L base history is order in record { second = k.second; view = k.view }

-- and answers as it does
pub lazy-replies : (M : Model) → ModelLaws M → (base : Base M) (before : List M.Entry) (e : M.Entry) → IsBase M base → InOrder M base.moment (before ++ e ∷ []) → lazy_reply M base before e ≡ world_reply M base before e
lazy-replies M L base before e is order =
    let f = lazy M base before in
    let m = M.moment_of e in
    let k = keeps M L base before is (order-front M base.moment before (e ∷ []) order) in
    let rest = order-rest M base.moment before (e ∷ []) order in
    let follows = follows-later M L base before (last_touch M base before) f m k rest.0 in
    let least = closing-least M L f.universe m (M.ask_of e) follows.fine in
    let meet = meets M L (touched M f e) m (M.ask_of e) f (world M base before m) follows least.closed least.covers in
    L.reply_depends (touched M f e) m (prepared M e f).universe (world M base before m) (M.ask_of e) meet.lazy meet.ticking meet.count meet.agree
