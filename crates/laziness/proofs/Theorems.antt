-- The theorems, from the laws.
use Rattle.std.proofs.Common.{◌≡◌, ℕ, ◌≤◌, Bool, true, false, not, List, [], ◌∷◌, ◌++◌, arith, refl, ap, ◌∙◌, sym, subst}
use Rattle.laziness.specs.Model.{Model}
use Rattle.laziness.specs.Laws.{ModelLaws, IsClosed, Covers, Agree}
use Rattle.laziness.specs.Closing.{closing}
use Rattle.laziness.specs.Second.{everything}
use Rattle.laziness.specs.World.{Base, IsBase, InOrder, last_moment, world}
use Rattle.laziness.specs.Stamps.{Stamps, happened, brought, AgreeStamped}
use Rattle.laziness.specs.Lazy.{touched, prepared, lazily, lazily_all, stamped, lazy}
use Rattle.laziness.specs.Touch.{last_touch}
use Rattle.laziness.specs.Theorems.{ClosuresAreLeast, SecondsEnd, AgreeUntil, TicksLocally, LazyEqualsTicking, EntriesTouchTheirClosure, CellsDecide}
use Rattle.laziness.proofs.Bringing.{view-inside, alike-same}
use Rattle.laziness.proofs.Preparing.{closed-apart, IsPrepared, prepares, ready}
use Rattle.laziness.proofs.Seconds.{second-ends, second-fine}
use Rattle.laziness.proofs.Following.{Follows, happened-none}
use Rattle.laziness.proofs.Asking.{same-until, Meets, meets, not-true}
use Rattle.laziness.proofs.Closures.{closing-least}
use Rattle.laziness.proofs.Worlds.{order-front, order-rest}
use Rattle.laziness.proofs.Histories.{keeps, keeps-base, follows-later, lazy-stands, lazy-replies}
use Rattle.laziness.proofs.Holding.{can-good, first-acts, one-first, same-first, same-event, same-brought, same-request, same-reply}

-- tests that pass alike are equal
both-ways : (b c : Bool) → (b ≡ true → c ≡ true) → (c ≡ true → b ≡ true) → b ≡ c
both-ways true c to from = sym (to refl)
both-ways false true to from = from refl
both-ways false false to from = refl

pub closures-least : (M : Model) → ModelLaws M → ClosuresAreLeast M
closures-least M L = record {
  least = closing-least M L;
  only = λ u t a S fine is x.
      let own = closing-least M L u t a fine in
      both-ways (S x) (closing M (M.view u) t a x) (is.least (closing M (M.view u) t a) own.closed own.covers x) (own.least S is.closed is.covers x);
}

pub seconds-end : (M : Model) → ModelLaws M → SecondsEnd M
seconds-end M L = record {
  none = second-ends M L;
  fine = second-fine M L;
  worlds = λ base history t is order later.
      let follows = follows-later M L base history (last_touch M base history) (lazy M base history) t (keeps M L base history is order) later in
      record { fine = follows.fine_ticking; none = follows.none };
}

-- a base is followed by what stands at its moment
base-follows : (M : Model) → ModelLaws M → (base : Base M) (t : ℕ) → IsBase M base → base.moment ≤ t → Follows M t (stamped M base) (world M base [] t)
base-follows M L base t is later = follows-later M L base [] (λ x. base.moment) (stamped M base) t (keeps-base M L base is) later

ticks-views : (M : Model) → ModelLaws M → (S : M.Id → Bool) (t : ℕ) (base other : Base M) → AgreeUntil M S t base other → Agree M S (world M base [] t) (world M other [] t)
ticks-views M L S t base other alike x inside =
    let later : other.moment ≤ t = let same = alike.moment in let before = alike.later in omega (arith, same, before) in
    let one = base-follows M L base t alike.is_base alike.later in
    let two = base-follows M L other t alike.is_other later in
    let closed : IsClosed M (M.view other.universe) t S = λ y within z brings. alike.closed y within z (subst (λ v. M.brings v t z ≡ true) (sym (alike.agree y within)) brings) in
    sym (one.is x)
    ∙ same-until M L S t (stamped M base) (stamped M other) one.fine two.fine one.timely two.timely (closed-apart M L S t (stamped M base) one.fine alike.closed) (closed-apart M L S t (stamped M other) two.fine closed)
    (λ y within. alike-same M (stamped M base) (stamped M other) y (alike.agree y within) alike.moment) x inside alike.later later
    ∙ two.is x

-- what a request needs is there in both
record BothMeet (M : Model) (S : M.Id → Bool) (t : ℕ) (a : M.Ask) (base other : Base M) : Type 0 where
  first : Meets M S t a (brought M S t (stamped M base)) (world M base [] t)
  second : Meets M S t a (brought M S t (stamped M other)) (world M other [] t)
  count : M.count (world M base [] t) ≡ M.count (world M other [] t)

both-meet : (M : Model) → ModelLaws M → (S : M.Id → Bool) (t : ℕ) (base other : Base M) (a : M.Ask) → AgreeUntil M S t base other → Covers M (M.view base.universe) a S → M.count base.universe ≡ M.count other.universe
    → BothMeet M S t a base other
both-meet M L S t base other a alike covers count =
    let later : other.moment ≤ t = let same = alike.moment in let before = alike.later in omega (arith, same, before) in
    let one = base-follows M L base t alike.is_base alike.later in
    let two = base-follows M L other t alike.is_other later in
    let closed : IsClosed M (M.view other.universe) t S = λ y within z brings. alike.closed y within z (subst (λ v. M.brings v t z ≡ true) (sym (alike.agree y within)) brings) in
    record {
      first = meets M L S t a (stamped M base) (world M base [] t) one alike.closed covers;
      second = meets M L S t a (stamped M other) (world M other [] t) two closed (L.asks_within S a (M.view base.universe) (M.view other.universe) alike.agree covers);
      count = sym one.count ∙ count ∙ two.count;
    }

pub ticks-locally : (M : Model) → ModelLaws M → TicksLocally M
ticks-locally M L = record {
  views = ticks-views M L;
  replies = λ S t base other a alike covers count.
      let both = both-meet M L S t base other a alike covers count in
      L.reply_depends S t (world M base [] t) (world M other [] t) a both.first.ticking both.second.ticking both.count (ticks-views M L S t base other alike);
  changes = λ S t base other a alike covers count.
      let both = both-meet M L S t base other a alike covers count in
      L.act_depends S t (world M base [] t) (world M other [] t) a both.first.ticking both.second.ticking both.count (ticks-views M L S t base other alike);
}

catches-up : (M : Model) → ModelLaws M → (base : Base M) (history : List M.Entry) (t : ℕ) → IsBase M base → InOrder M base.moment history → last_moment M base.moment history ≤ t
    → (x : M.Id) → M.view (brought M (everything M) t (lazy M base history)).universe x ≡ M.view (world M base history t) x
catches-up M L base history t is order later x =
    let follows = follows-later M L base history (last_touch M base history) (lazy M base history) t (keeps M L base history is order) later in
    view-inside M L (everything M) t (happened M (everything M) t (lazy M base history)) x refl ∙ follows.is x

pub lazy-equals-ticking : (M : Model) → ModelLaws M → LazyEqualsTicking M
lazy-equals-ticking M L = record { stands = lazy-stands M L; replies = lazy-replies M L; catches_up = catches-up M L }

lazily-more : (M : Model) (es : List M.Entry) (e : M.Entry) (f : Stamps M) → lazily_all M (es ++ e ∷ []) f ≡ lazily M e (lazily_all M es f)
lazily-more M [] e f = refl
lazily-more M (x ∷ es) e f = lazily-more M es e (lazily M x f)

-- what an entry's cells are that were prepared, and what its request needs of them
record EntryMeets (M : Model) (base : Base M) (history : List M.Entry) (e : M.Entry) : Type 0 where
  prep : IsPrepared M (touched M (lazy M base history) e) (M.moment_of e) (lazy M base history) (prepared M e (lazy M base history))
  meet : Meets M (touched M (lazy M base history) e) (M.moment_of e) (M.ask_of e) (prepared M e (lazy M base history)) (world M base history (M.moment_of e))

entry-meets : (M : Model) → ModelLaws M → (base : Base M) (history : List M.Entry) (e : M.Entry) → IsBase M base → InOrder M base.moment (history ++ e ∷ []) → EntryMeets M base history e
entry-meets M L base history e is order =
    let f = lazy M base history in
    let m = M.moment_of e in
    let S = touched M f e in
    let k = keeps M L base history is (order-front M base.moment history (e ∷ []) order) in
    let follows = follows-later M L base history (last_touch M base history) f m k (order-rest M base.moment history (e ∷ []) order).0 in
    let least = closing-least M L f.universe m (M.ask_of e) follows.fine in
    record {
      prep = prepares M L S m f (record { fine = follows.fine; timely = follows.timely; apart = closed-apart M L S m f follows.fine least.closed });
      meet = meets M L S m (M.ask_of e) f (world M base history m) follows least.closed least.covers;
    }

pub entries-touch : (M : Model) → ModelLaws M → EntriesTouchTheirClosure M
entries-touch M L = record {
  steps = λ base history e. lazily-more M history e (stamped M base);
  stamped = λ base history e is order x inside.
      ap (λ (g : Stamps M). g.at x) (lazily-more M history e (stamped M base)) ∙ (entry-meets M L base history e is order).prep.now x inside;
  untouched = λ base history e is order.
      let both = entry-meets M L base history e is order in
      let f = lazy M base history in
      let S = touched M f e in
      subst (λ g. AgreeStamped M (λ x. not (S x)) g f) (sym (lazily-more M history e (stamped M base))) (record {
        view = λ x outside. L.act_outside S (M.moment_of e) (prepared M e f).universe (M.ask_of e) x both.meet.lazy (not-true (S x) outside) ∙ both.prep.view x (not-true (S x) outside);
        at = λ x outside. both.prep.at x (not-true (S x) outside);
      });
}

pub cells-decide : (M : Model) → ModelLaws M → CellsDecide M
cells-decide M L = record {
  can_bring = λ base history S t is order later closed.
      let follows = follows-later M L base history (last_touch M base history) (lazy M base history) t (keeps M L base history is order) later in
      record { fine = follows.fine; timely = follows.timely; closed = closed; behind = λ x inside. follows.behind x };
  none = happened-none M L;
  first = first-acts M L;
  one = one-first M L;
  same_first = λ S t f g e can_f can_g agree next. same-first M L S t f g e agree next;
  event = same-event M L;
  cells = same-brought M L;
  ready = λ S t a f can covers. ready M L S t a f (can-good M L S t f can) can.closed covers;
  request = same-request M L;
  reply = same-reply M L;
}
