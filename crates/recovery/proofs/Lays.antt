-- What the steps of laying an area lead to.
use Rattle.std.proofs.Common.{◌≡◌, ℕ, List, [], ◌∷◌, take, Result, Ok, Err, OnOk, ◌∙◌, ap, sym, subst}
use Rattle.disk_port.specs.Contents.{Shortened, written}
use Rattle.disk_port.specs.Disk.{Elapses, Rests, Settles, Tears}
use Rattle.disk_port.specs.Moments.{EachNow, EachSince, TornFrom}
use Rattle.disk_port.specs.Story.{Lawful, Story, Told}
use Rattle.disk_port.proofs.Moments.{goes_on, joined, now-since, rests-now, seen-now, started, tears-now, weakened}
use Rattle.recovery.specs.Areas.{IsArea, IsBehind}
use Rattle.recovery.specs.Laying.{HasBehind, HasGate, IsClosing, IsLaying, IsOpening, IsRebasing, IsUnclosed, as_before, closed, earlier, laid, not_open, opened, rebased, shut, stood, unopened}
use Rattle.recovery.proofs.Gates.{behind-gate, closed-written, cut-gate, filled, gate-shut, open-torn, opened-written, unclosed-torn}

pub area-is : (generation : ℕ) (base behind c : List ℕ) → IsBehind generation base behind → c ≡ 1 ∷ behind → IsArea generation base c
area-is generation base behind c is same = record { head = is.head; is_head = is.is_head; is = same ∙ ap (λ (l : List ℕ). 1 ∷ l) is.is }

module _ {D : Type 0} (story : Story D) where
  -- a sync adds no image
  pub sync-since : {T E : Type 0} (old new : D) (result : Result T E) → Lawful story → Told story old new (Settles story old new result) → Told story old new (Elapses story old new)
      → Told story old new (EachSince story old new (story.leaves old))
  sync-since old new result lawful settles time told =
      let before = (settles told).0 in
      let first = started story old (story.leaves old) lawful before (λ c left. left) in
      (before, goes_on story old old new (story.leaves old) first (time told).1 (λ c left. (settles told).1.none_added c left))

  -- and neither does a read
  pub read-since : (old mid new : D) → Lawful story → Told story old mid (EachSince story old mid (story.leaves old)) → Told story mid new (Rests story mid new) → Told story mid new (Elapses story mid new)
      → Told story old new (EachSince story old new (story.leaves old))
  read-since old mid new lawful first rests time told =
      let between = (rests told).0 in
      let since = first between in
      let each = now-since story old mid (story.leaves old) lawful between since.1 in
      (since.0, goes_on story old mid new (story.leaves old) since.1 (time told).1 (rests-now story mid new (story.leaves old) (rests told).1 each))

  -- nothing was to be closed
  pub closed-already : (old new : D) → Told story old new (EachSince story old new (story.leaves old)) → Told story old new (EachSince story old new (IsClosing (story.leaves old)))
  closed-already old new since told =
      ((since told).0, weakened story old new (story.leaves old) (IsClosing (story.leaves old)) (since told).1 (λ c left. stood left))

  -- a gate is closed that was open or missing
  pub closes : (old mid new : D) → Lawful story → Told story old mid (EachSince story old mid (story.leaves old)) → Told story old mid (EachNow story mid IsUnclosed)
      → Told story mid new (EachSince story mid new (TornFrom story mid 0 1)) → Told story old new (EachSince story old new (IsClosing (story.leaves old)))
  closes old mid new lawful first unclosed then told =
      let between = (then told).0 in
      let since = first between in
      let was = now-since story old mid (story.leaves old) lawful between since.1 in
      let P = IsClosing (story.leaves old) in (
        since.0,
        joined story old mid new P (weakened story old mid (story.leaves old) P since.1 (λ c left. stood left))
            (weakened story mid new (TornFrom story mid 0 1) P (then told).1 (λ c from. unclosed-torn (story.leaves old) from.0 c ((unclosed between).1 from.0 from.1) (was from.0 from.1) from.2)),
      )

  ok-now : {T E : Type 0} (new : D) (P Q : List ℕ → Type 0) (result : Result T E) → ((c : List ℕ) → P c → Q c) → OnOk result (EachNow story new P) → OnOk result (EachNow story new Q)
  ok-now new P Q (Ok value) leads each = λ c left. leads c (each c left)
  ok-now new P Q (Err error) leads each = tt

  pub closed-now : {T E : Type 0} (mid new : D) (result : Result T E) (s : List ℕ) → OnOk result (EachNow story new (λ c. c ≡ written s 0 (0 ∷ []))) → OnOk result (EachNow story new HasGate)
  closed-now mid new result s each = ok-now new (λ c. c ≡ written s 0 (0 ∷ [])) HasGate result (λ c is. subst HasGate (sym is) (closed-written s)) each

  -- All behind the gate is cut away,
  pub cuts-since : {T E : Type 0} (old new : D) (result : Result T E) → Lawful story → (story.tells old → EachNow story old HasGate) → Told story old new (Tears story (Shortened 1) old new result)
      → Told story old new (Elapses story old new) → Told story old new (EachSince story old new HasGate)
  cuts-since old new result lawful each tears time told =
      let before = (tears told).0 in
      let first = started story old HasGate lawful before (each before) in
      (before, goes_on story old old new HasGate first (time told).1 (tears-now story (Shortened 1) old new result HasGate HasGate (tears told).1 (each before) cut-gate))

  -- and other bytes are written there.
  pub fills-since : (old mid new : D) (n : ℕ) → Lawful story → Told story old mid (EachSince story old mid HasGate) → Told story mid new (EachSince story mid new (TornFrom story mid 1 n))
      → Told story old new (EachSince story old new HasGate)
  fills-since old mid new n lawful first then told =
      let between = (then told).0 in
      let since = first between in
      let was = now-since story old mid HasGate lawful between since.1 in (
        since.0,
        joined story old mid new HasGate since.1 (weakened story mid new (TornFrom story mid 1 n) HasGate (then told).1 (λ c from. behind-gate n from.0 c (was from.0 from.1) from.2)),
      )

  pub fills-now : {T E : Type 0} (old mid new : D) (result : Result T E) (bytes : List ℕ) → Lawful story → story.tells old → EachNow story old HasGate → story.seen mid ≡ take 1 (story.seen old)
      → OnOk result (EachNow story new (λ c. c ≡ written (story.seen mid) 1 bytes)) → OnOk result (EachNow story new (HasBehind bytes))
  fills-now old mid new result bytes lawful told each cut now =
      let s = story.seen old in
      let gate = seen-now story old HasGate lawful told each in
      ok-now new (λ c. c ≡ written (story.seen mid) 1 bytes) (HasBehind bytes) result
      (λ c is. subst (HasBehind bytes) (sym (is ∙ ap (λ (l : List ℕ). written l 1 bytes) cut)) (filled s bytes gate)) now

  -- The gate is opened.
  pub opens-since : (old new : D) (bytes : List ℕ) → EachNow story old (HasBehind bytes) → EachSince story old new (TornFrom story old 0 1) → EachSince story old new (IsOpening (1 ∷ bytes))
  opens-since old new bytes each since = weakened story old new (TornFrom story old 0 1) (IsOpening (1 ∷ bytes)) since (λ c from. open-torn bytes from.0 c (each from.0 from.1) from.2)

  pub opens-now : (old new : D) (bytes : List ℕ) → Lawful story → story.tells old → EachNow story old (HasBehind bytes) → EachNow story new (λ c. c ≡ written (story.seen old) 0 (1 ∷ []))
      → EachNow story new (λ c. c ≡ 1 ∷ bytes)
  opens-now old new bytes lawful told each now = λ c left. now c left ∙ opened-written bytes (story.seen old) (seen-now story old (HasBehind bytes) lawful told each)

  pub opens-ok : {T E : Type 0} (old new : D) (result : Result T E) → Lawful story → story.tells old → OnOk result (EachNow story new (λ c. c ≡ written (story.seen old) 0 (1 ∷ [])))
      → OnOk result ((bytes : List ℕ) → EachNow story old (HasBehind bytes) → EachNow story new (λ c. c ≡ 1 ∷ bytes))
  opens-ok old new (Ok value) lawful told now = λ bytes each. opens-now old new bytes lawful told each now
  opens-ok old new (Err error) lawful told now = tt

  pub laid-ok : {T E : Type 0} (old new : D) (result : Result T E) (bytes : List ℕ) → EachNow story old (HasBehind bytes)
      → OnOk result ((bytes : List ℕ) → EachNow story old (HasBehind bytes) → EachNow story new (λ c. c ≡ 1 ∷ bytes)) → OnOk result (EachNow story new (λ c. c ≡ 1 ∷ bytes))
  laid-ok old new (Ok value) bytes each opens = opens bytes each
  laid-ok old new (Err error) bytes each opens = tt

  -- what was read is so of each image, since all are one
  pub closed-told : (mid new : D) (P : List ℕ → Type 0) → ((c : List ℕ) → story.leaves mid c → c ≡ story.seen mid) → Rests story mid new → P (story.seen mid) → EachNow story new P
  closed-told mid new P settled rests is = λ c left. subst P (sym (settled c (rests.none_added c left))) is

  -- All steps.

  pub lays-shut : (old new : D) (area : List ℕ) → EachSince story old new (IsClosing (story.leaves old)) → EachSince story old new (IsLaying (story.leaves old) area)
  lays-shut old new area since = weakened story old new (IsClosing (story.leaves old)) (IsLaying (story.leaves old) area) since (λ c closing. as-laying c closing)
    where
      as-laying : (c : List ℕ) → IsClosing (story.leaves old) c → IsLaying (story.leaves old) area c
      as-laying c (stood left) = earlier left
      as-laying c (shut other) = closed other

  pub lays-filled : (old mid new : D) (area : List ℕ) → EachSince story old mid (IsLaying (story.leaves old) area) → EachSince story mid new HasGate → EachSince story old new (IsLaying (story.leaves old) area)
  lays-filled old mid new area first then =
      joined story old mid new (IsLaying (story.leaves old) area) first (weakened story mid new HasGate (IsLaying (story.leaves old) area) then (λ c gate. closed (gate-shut c gate)))

  pub lays-opened : (old mid new : D) (area : List ℕ) → EachSince story old mid (IsLaying (story.leaves old) area) → EachSince story mid new (IsOpening area) → EachSince story old new (IsLaying (story.leaves old) area)
  lays-opened old mid new area first then =
      joined story old mid new (IsLaying (story.leaves old) area) first (weakened story mid new (IsOpening area) (IsLaying (story.leaves old) area) then (λ c opening. as-laying c opening))
    where
      as-laying : (c : List ℕ) → IsOpening area c → IsLaying (story.leaves old) area c
      as-laying c (unopened other) = closed other
      as-laying c (opened is) = laid is

  -- the whole is an area with a base
  pub rebases : (old new : D) (generation : ℕ) (base behind : List ℕ) → IsBehind generation base behind → EachSince story old new (IsLaying (story.leaves old) (1 ∷ behind))
      → EachSince story old new (IsRebasing (story.leaves old) generation base)
  rebases old new generation base behind is since =
      weakened story old new (IsLaying (story.leaves old) (1 ∷ behind)) (IsRebasing (story.leaves old) generation base) since (λ c laying. as-rebasing c laying)
    where
      as-rebasing : (c : List ℕ) → IsLaying (story.leaves old) (1 ∷ behind) c → IsRebasing (story.leaves old) generation base c
      as-rebasing c (earlier left) = as_before left
      as-rebasing c (closed other) = not_open other
      as-rebasing c (laid same) = rebased (area-is generation base behind c is same)

  -- of a base that was written
  pub rebases-of : (old new : D) (generation : ℕ) (base bytes slice behind area : List ℕ) → bytes ≡ base → slice ≡ bytes → area ≡ behind → IsBehind generation slice behind
      → EachSince story old new (IsLaying (story.leaves old) (1 ∷ area)) → EachSince story old new (IsRebasing (story.leaves old) generation base)
  rebases-of old new generation base bytes slice behind area written shown laid_is is since =
      rebases old new generation base behind (subst (λ (l : List ℕ). IsBehind generation l behind) (shown ∙ written) is)
      (subst (λ (l : List ℕ). EachSince story old new (IsLaying (story.leaves old) (1 ∷ l))) laid_is since)

  -- nothing was done
  pub untouched : (disk : D) (generation : ℕ) (base : List ℕ) → Lawful story → Told story disk disk (EachSince story disk disk (IsRebasing (story.leaves disk) generation base))
  untouched disk generation base lawful told = (told, started story disk (IsRebasing (story.leaves disk) generation base) lawful told (λ c left. as_before left))
