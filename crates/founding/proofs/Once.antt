-- A list of lines founds one universe, or has one first bad line.
use Rattle.std.proofs.Common.{◌≡◌, ℕ, ◌+◌, ◌<◌, ◌≤◌, List, [], ◌∷◌, ◌++◌, length, refl, ap, ◌∙◌, sym, subst, arith, inl, inr, Option, Some, None, append_assoc, length-append}
use Rattle.std.specs.Prelude.{codes, ⊤}
use Rattle.base_text.specs.Parts.{words}
use Rattle.tick_model.specs.Universe.{Universe}
use Rattle.founding.specs.Drafts.{begun, manned_with, raised_to, replaced, stocked_with, Adds, AddsNothing, DraftPlanet, Drafted, Grows, Mans, Raises, Stocks}
use Rattle.founding.specs.Founded.{founded}
use Rattle.founding.specs.Founding.{Founds, IsBadAt, IsBadNext, NeedsMemory, TakesMemory}
use Rattle.founding.proofs.Hearing.{grows-more}
use Rattle.founding.proofs.Forms.{level_alone, planet_alone, player_alone, stock_alone, technology_alone, units_alone}
use Rattle.founding.specs.declared.named.NewLevel.{NewLevel}
use Rattle.founding.specs.declared.named.NewStock.{NewStock}
use Rattle.founding.specs.declared.named.NewUnits.{NewUnits}
use Rattle.founding.proofs.Wording.{one_heading}

stocks_once : (draft : Drafted) (stock : NewStock) (a b : Drafted) → Stocks draft stock a → Stocks draft stock b → a ≡ b
stocks_once draft stock a b (planet, may, is) (other, may_other, is_other) =
    let first = may.stands in
    let second = may_other.stands in
    let one : planet ≡ other = cc in
    is ∙ ap (λ (p : DraftPlanet). record draft { planets = replaced (stocked_with stock p) draft.planets }) one ∙ sym is_other

raises_once : (draft : Drafted) (level : NewLevel) (a b : Drafted) → Raises draft level a → Raises draft level b → a ≡ b
raises_once draft level a b (planet, may, is) (other, may_other, is_other) =
    let first = may.stands in
    let second = may_other.stands in
    let one : planet ≡ other = cc in
    is ∙ ap (λ (p : DraftPlanet). record draft { planets = replaced (raised_to level p) draft.planets }) one ∙ sym is_other

mans_once : (draft : Drafted) (units : NewUnits) (a b : Drafted) → Mans draft units a → Mans draft units b → a ≡ b
mans_once draft units a b (planet, may, is) (other, may_other, is_other) =
    let first = may.stands in
    let second = may_other.stands in
    let one : planet ≡ other = cc in
    is ∙ ap (λ (p : DraftPlanet). record draft { planets = replaced (manned_with units p) draft.planets }) one ∙ sym is_other

names_once : (draft : Drafted) (line : List ℕ) (a b : Drafted) (p : Adds (Some draft) line a) → Adds (Some draft) line b → a ≡ b
names_once draft line a b (inl says) other = let same = player_alone draft line says.value says.spelled.spells b other in says.makes.1 ∙ sym same.1
names_once draft line a b (inr (inl says)) other = let same = planet_alone draft line says.value says.spelled.spells b other in says.makes.1 ∙ sym same.1
names_once draft line a b (inr (inr (inl says))) other = stocks_once draft says.value a b says.makes (stock_alone draft line says.value says.spelled.spells b other)
names_once draft line a b (inr (inr (inr (inl says)))) other = raises_once draft says.value a b says.makes (level_alone draft line says.value says.spelled.spells b other)
names_once draft line a b (inr (inr (inr (inr (inl says))))) other = let same = technology_alone draft line says.value says.spelled.spells b other in says.makes.1 ∙ sym same.1
names_once draft line a b (inr (inr (inr (inr (inr says))))) other = mans_once draft says.value a b says.makes (units_alone draft line says.value says.spelled.spells b other)

-- a line adds in one way
adds_once : (said : Option Drafted) (line : List ℕ) (a b : Drafted) → Adds said line a → Adds said line b → a ≡ b
adds_once None line a b p q = p.makes ∙ ap begun (one_heading (words line) p.value q.value p.spelled.spells q.spelled.spells) ∙ sym q.makes
adds_once (Some draft) line a b p q = names_once draft line a b p q

-- the first of these lines adds nothing, if there is one
Ends : Option Drafted → List (List ℕ) → Type 0
Ends said [] = ⊤
Ends said (line ∷ later) = AddsNothing said line

bad_ends : (said : Option Drafted) (rest : List (List ℕ)) → IsBadNext said rest → Ends said rest
unfolding Ends
bad_ends said [] bad = tt
bad_ends said (line ∷ later) bad = bad.1

dot_nothing : (draft new : Drafted) → Adds (Some draft) (codes ".") new → ⊥
dot_nothing draft new (inl says) = let e = ap length says.spelled.spells in omega (arith, e)
dot_nothing draft new (inr (inl says)) = let e = ap length says.spelled.spells in omega (arith, e)
dot_nothing draft new (inr (inr (inl says))) = let e = ap length says.spelled.spells in omega (arith, e)
dot_nothing draft new (inr (inr (inr (inl says)))) = let e = ap length says.spelled.spells in omega (arith, e)
dot_nothing draft new (inr (inr (inr (inr (inl says))))) = let e = ap length says.spelled.spells in omega (arith, e)
dot_nothing draft new (inr (inr (inr (inr (inr says))))) = let e = ap length says.spelled.spells in omega (arith, e)

dot_ends : (draft : Drafted) (script : List (List ℕ)) → Ends (Some draft) (codes "." ∷ script)
unfolding Ends
dot_ends draft script = dot_nothing draft

-- if it ends, no line is added
no_more : (said : Option Drafted) (next : Drafted) (line : List ℕ) (rest later : List (List ℕ)) → rest ≡ line ∷ later → Ends said rest → Adds said line next → ⊥
unfolding Ends
no_more said next line rest later same ends adds = let here : Ends said (line ∷ later) = subst (Ends said) same ends in here next adds

-- Lines are one front that adds something as far as it can, and what is left.
record Same (good good' : List (List ℕ)) (last last' : Option Drafted) (rest rest' : List (List ℕ)) : Type 0 where
  front : good ≡ good'
  draft : last ≡ last'
  back : rest ≡ rest'

stop_once : (start last last' : Option Drafted) (good good' rest rest' : List (List ℕ)) → good ++ rest ≡ good' ++ rest' → Grows start good last → Grows start good' last' → Ends last rest → Ends last' rest' → Same good good' last last' rest rest'
stop_once start last last' [] [] rest rest' same grows grows' ends ends' = record { front = refl; draft = grows ∙ sym grows'; back = same }
stop_once start last last' [] (line ∷ later) rest rest' same grows (next, adds, grows') ends ends' =
    absurd (no_more last next line rest (later ++ rest') same ends (subst (λ (d : Option Drafted). Adds d line next) (sym grows) adds))
stop_once start last last' (line ∷ later) [] rest rest' same (next, adds, grows) grows' ends ends' =
    absurd (no_more last' next line rest' (later ++ rest) (sym same) ends' (subst (λ (d : Option Drafted). Adds d line next) (sym grows') adds))
stop_once start last last' (line ∷ later) (line' ∷ later') rest rest' same (next, adds, grows) (next', adds', grows') ends ends' =
    let first : line' ≡ line = cc in
    let others : later ++ rest ≡ later' ++ rest' = cc in
    let one : next' ≡ next = adds_once start line next' next (subst (λ (l : List ℕ). Adds start l next') first adds') adds in
    let s = stop_once (Some next) last last' later later' rest rest' others grows (subst (λ (d : Drafted). Grows (Some d) later' last') one grows') ends ends' in
    record { front = (λ i. sym first i ∷ s.front i); draft = s.draft; back = s.back }

-- the lines found one universe with one capacity, and leave one script
pub founds_once : (lines : List (List ℕ)) (a b : Universe) (m n : ℕ) (script other : List (List ℕ)) → Founds lines a m script → Founds lines b n other → (a ≡ b) × (m ≡ n) × (script ≡ other)
founds_once lines a b m n script other p q =
    let s = stop_once None (Some p.draft) (Some q.draft) p.good q.good (codes "." ∷ script) (codes "." ∷ other) (sym p.parts ∙ q.parts) p.grows q.grows (dot_ends p.draft script) (dot_ends q.draft other) in
    let back = s.back in
    let draft = s.draft in
    let scripts : script ≡ other = cc in
    let drafts : p.draft ≡ q.draft = cc in
    (p.founds ∙ ap founded drafts ∙ sym q.founds, p.keeps ∙ ap (λ (d : Drafted). d.heading.capacity) drafts ∙ sym q.keeps, scripts)

-- the lines have one first bad line
pub bad_once : (lines : List (List ℕ)) (m n : ℕ) → IsBadAt lines m → IsBadAt lines n → m ≡ n
bad_once lines m n p q =
    let s = stop_once None p.said q.said p.good q.good p.rest q.rest (sym p.parts ∙ q.parts) p.grows q.grows (bad_ends p.said p.rest p.bad) (bad_ends q.said q.rest q.bad) in
    p.place ∙ ap (λ good. length good + 1) s.front ∙ sym q.place

not_end : (draft : Drafted) (said : Option Drafted) (rest script : List (List ℕ)) → Some draft ≡ said → codes "." ∷ script ≡ rest → IsBadNext said rest → ⊥
not_end draft said rest script one same bad =
    let there : IsBadNext (Some draft) rest = subst (λ (s : Option Drafted). IsBadNext s rest) (sym one) bad in
    let here : IsBadNext (Some draft) (codes "." ∷ script) = subst (IsBadNext (Some draft)) (sym same) there in
    here.0 refl

-- lines that found a universe have no bad one
pub never_both : (lines : List (List ℕ)) (a : Universe) (capacity : ℕ) (script : List (List ℕ)) (n : ℕ) → Founds lines a capacity script → IsBadAt lines n → ⊥
never_both lines a capacity script n p q =
    let s = stop_once None (Some p.draft) q.said p.good q.good (codes "." ∷ script) q.rest (sym p.parts ∙ q.parts) p.grows q.grows (dot_ends p.draft script) (bad_ends q.said q.rest q.bad) in
    not_end p.draft q.said q.rest script s.draft s.back q.bad

-- no front that adds something is longer than the one at whose end nothing is added
front_length : (start last last' : Option Drafted) (good good' rest rest' : List (List ℕ)) → good ++ rest ≡ good' ++ rest' → Grows start good last → Grows start good' last' → Ends last' rest' → length good ≤ length good'
front_length start last last' [] good' rest rest' same grows grows' ends = omega arith
front_length start last last' (line ∷ later) [] rest rest' same (next, adds, grows) grows' ends =
    absurd (no_more last' next line rest' (later ++ rest) (sym same) ends (subst (λ (d : Option Drafted). Adds d line next) (sym grows') adds))
front_length start last last' (line ∷ later) (line' ∷ later') rest rest' same (next, adds, grows) (next', adds', grows') ends =
    let first : line' ≡ line = cc in
    let others : later ++ rest ≡ later' ++ rest' = cc in
    let one : next' ≡ next = adds_once start line next' next (subst (λ (l : List ℕ). Adds start l next') first adds') adds in
    let shorter = front_length (Some next) last last' later later' rest rest' others grows (subst (λ (d : Drafted). Grows (Some d) later' last') one grows') ends in
    omega (arith, shorter)

one_more : (said : Option Drafted) (good : List (List ℕ)) (line : List ℕ) → Grows None good said → TakesMemory said line → (last : Option Drafted) × Grows None (good ++ line ∷ []) last
one_more None good line grows takes = absurd takes
one_more (Some draft) good line grows takes = (Some takes.0, grows-more None (Some draft) takes.0 good line grows takes.1)

-- memory runs out before the first bad line
pub memory_first : (lines later : List (List ℕ)) (n : ℕ) (needs : NeedsMemory lines later) → IsBadAt lines n → length needs.good + 1 < n
memory_first lines later n needs bad =
    let more = one_more needs.said needs.good needs.line needs.grows needs.adds in
    let same : (needs.good ++ needs.line ∷ []) ++ later ≡ bad.good ++ bad.rest = append_assoc needs.good (needs.line ∷ []) later ∙ sym needs.parts ∙ bad.parts in
    let most = front_length None more.0 bad.said (needs.good ++ needs.line ∷ []) bad.good later bad.rest same more.1 bad.grows (bad_ends bad.said bad.rest bad.bad) in
    let count = length-append needs.good (needs.line ∷ []) in
    omega (arith, most, count, bad.place)
