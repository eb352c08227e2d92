-- The first words of requests: each is of one form.
use Rattle.std.proofs.Common.{◌≡◌, ℕ, ◌<◌, Bool, true, false, List, [], ◌∷◌, refl, ap, ◌∙◌, sym, subst, eqb, cond, get_or, lit<}
use Rattle.std.specs.Prelude.{Option, Some, None, MatchOption, ◌&&◌}
use Rattle.std.specs.List.{All}
use Rattle.request_text.specs.Forms.{form_word}
use Rattle.request_text.specs.declared.form.TheConstants.{FORMS}
use Rattle.request_text.specs.declared.form.Form.{Form}
use Rattle.request_text.specs.declared.form.Form.TheVariants.{Planet, Account, Fleets, System, Build, Research, Yard, Set, Send, Join, Recall}

abbrev place : Form → ℕ
place Planet = 0
place Account = 1
place Fleets = 2
place System = 3
place Build = 4
place Research = 5
place Yard = 6
place Set = 7
place Send = 8
place Join = 9
place Recall = 10

form_at : (form other : Form) → get_or FORMS (place form) other ≡ form
form_at Planet other = refl
form_at Account other = refl
form_at Fleets other = refl
form_at System other = refl
form_at Build other = refl
form_at Research other = refl
form_at Yard other = refl
form_at Set other = refl
form_at Send other = refl
form_at Join other = refl
form_at Recall other = refl

place_within : (form : Form) → place form < 11
place_within Planet = lit< tt
place_within Account = lit< tt
place_within Fleets = lit< tt
place_within System = lit< tt
place_within Build = lit< tt
place_within Research = lit< tt
place_within Yard = lit< tt
place_within Set = lit< tt
place_within Send = lit< tt
place_within Join = lit< tt
place_within Recall = lit< tt

-- what holds of each form in the list holds of every form
pub every_form : (P : Form → Type 0) → All P FORMS → (form : Form) → P form
every_form P all form = subst P (form_at form form) (all (place form) form (place_within form))

-- a search of the whole list finds the form that a word is of
pub read_whole : (word : List ℕ) (found : Option Form) → MatchOption found (All (λ form. word ≡ form_word form → ⊥) FORMS) (λ form. word ≡ form_word form) → MatchOption found ((form : Form) → word ≡ form_word form → ⊥) (λ form. word ≡ form_word form)
read_whole word None none = every_form (λ form. word ≡ form_word form → ⊥) none
read_whole word (Some form) named = named

is_text : List ℕ → List ℕ → Bool
is_text [] [] = true
is_text [] (y ∷ ys) = false
is_text (x ∷ xs) [] = false
is_text (x ∷ xs) (y ∷ ys) = eqb x y && is_text xs ys

-- the first of these forms with this word, or a given one
first_named : Form → List ℕ → List Form → Form
first_named none word [] = none
first_named none word (form ∷ forms) = cond (is_text (form_word form) word) form (first_named none word forms)

named_itself : (form : Form) → first_named Planet (form_word form) FORMS ≡ form
unfolding first_named is_text
named_itself Planet = refl
named_itself Account = refl
named_itself Fleets = refl
named_itself System = refl
named_itself Build = refl
named_itself Research = refl
named_itself Yard = refl
named_itself Set = refl
named_itself Send = refl
named_itself Join = refl
named_itself Recall = refl

-- a word is of at most one form
pub form_once : (a b : Form) → form_word a ≡ form_word b → a ≡ b
form_once a b same = sym (named_itself a) ∙ ap (λ word. first_named Planet word FORMS) same ∙ named_itself b
