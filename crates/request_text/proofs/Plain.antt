-- The words of kinds, missions and forms are made of letters.
use Rattle.std.proofs.Common.{◌≡◌, ℕ, ◌≤◌, ◌<◌, Bool, true, List, [], ◌∷◌, refl, arith}
use Rattle.std.specs.Prelude.{nat_le, ◌&&◌}
use Rattle.std.specs.List.{list_all}
use Rattle.std.proofs.lemmas.Bool.Decides.{nat_tests}
use Rattle.std.proofs.lemmas.List.Sums.{AllPass-from_list_all}
use Rattle.base_text.specs.Parts.{Lacks}
use Rattle.base_text.proofs.Lacking.{lacks-cons, lacks-nil}
use Rattle.catalog.specs.Kinds.{kind_word}
use Rattle.catalog.specs.declared.kind.TheConstants.{KINDS}
use Rattle.catalog.specs.declared.kind.Kind.{Kind}
use Rattle.catalog.proofs.Places.{every_kind}
use Rattle.catalog.specs.Missions.{mission_word}
use Rattle.catalog.specs.declared.mission.Mission.{Mission}
use Rattle.catalog.specs.declared.mission.Mission.TheVariants.{Transport, Deploy, Harvest, Attack}
use Rattle.request_text.specs.Forms.{form_word}
use Rattle.request_text.specs.declared.form.Form.{Form}
use Rattle.request_text.specs.declared.form.TheConstants.{FORMS}
use Rattle.request_text.proofs.Heads.{every_form}

abbrev is_letter : ℕ → Bool
is_letter c = nat_le 97 c && nat_le c 122

-- letters have no byte that is no letter
letters-lack : (c : ℕ) (word : List ℕ) → c < 97 → list_all is_letter word ≡ true → Lacks c word
letters-lack c [] other letters = lacks-nil c
letters-lack c (x ∷ xs) other letters =
    let first : 97 ≤ x = grind (arith, nat_tests) in
    let rest : list_all is_letter xs ≡ true = grind (arith, nat_tests) in
    lacks-cons c x xs (λ e. omega arith) (letters-lack c xs other rest)

kinds_are_letters : list_all (λ kind. list_all is_letter (kind_word kind)) KINDS ≡ true
kinds_are_letters = refl

pub kind_lacks : (c : ℕ) (kind : Kind) → c < 97 → Lacks c (kind_word kind)
kind_lacks c kind other =
    letters-lack c (kind_word kind) other (every_kind (λ k. list_all is_letter (kind_word k) ≡ true) (AllPass-from_list_all (λ k. list_all is_letter (kind_word k)) KINDS kinds_are_letters) kind)

pub mission_lacks : (c : ℕ) (mission : Mission) → c < 97 → Lacks c (mission_word mission)
mission_lacks c Transport other = letters-lack c (mission_word Transport) other refl
mission_lacks c Deploy other = letters-lack c (mission_word Deploy) other refl
mission_lacks c Harvest other = letters-lack c (mission_word Harvest) other refl
mission_lacks c Attack other = letters-lack c (mission_word Attack) other refl

forms_are_letters : list_all (λ form. list_all is_letter (form_word form)) FORMS ≡ true
forms_are_letters = refl

pub form_lacks : (c : ℕ) (form : Form) → c < 97 → Lacks c (form_word form)
form_lacks c form other =
    letters-lack c (form_word form) other (every_form (λ f. list_all is_letter (form_word f) ≡ true) (AllPass-from_list_all (λ f. list_all is_letter (form_word f)) FORMS forms_are_letters) form)
