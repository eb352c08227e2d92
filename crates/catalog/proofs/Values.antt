-- Values are what stands in their fields.
use Rattle.std.proofs.Common.{◌≡◌, ℕ, ◌≤◌, Bool, true, List, length, subst, ◌∙◌}
use Rattle.std.specs.Prelude.{IsTrue, nat_le, nat_lt}
use Rattle.std.specs.List.{list_all, list_any}
use Rattle.std.proofs.Math.Bool.{Bool-set}
use Rattle.std.proofs.Math.Nat.{ℕ_set}
use Rattle.std.specs.Coded.{le_prop}
use Rattle.catalog.specs.Classes.{is_building, is_technology, is_unit, is_work}
use Rattle.catalog.specs.declared.kind.Kind.{Kind}
use Rattle.catalog.specs.declared.classes.Building.{Building}
use Rattle.catalog.specs.declared.classes.Technology.{Technology}
use Rattle.catalog.specs.declared.classes.Unit.{Unit as UnitKind}
use Rattle.catalog.specs.declared.classes.Work.{Work}
use Rattle.catalog.specs.declared.amounts.Amounts.{Amounts}
use Rattle.catalog.specs.declared.amounts.TheConstants.{CAP}
use Rattle.catalog.specs.declared.ships.Ships.{Ships}
use Rattle.catalog.specs.declared.ships.TheConstants.{SHIPS, UNITS}
use Rattle.catalog.specs.declared.settings.Count.{Count}
use Rattle.catalog.specs.declared.settings.SpeedSetting.{SpeedSetting}
use Rattle.catalog.specs.declared.settings.Tenths.{Tenths}

test_once : (b : Bool) (p q : IsTrue b) → p ≡ q
test_once b p q = Bool-set b true p q

pub building_is : (a b : Building) → a.kind ≡ b.kind → a ≡ b
building_is a b same =
    let at = λ (k : Kind). (class : IsTrue (is_building k)) → a ≡ record a { kind = k; class = class } in
    subst at same (λ class i. record a { class = test_once (is_building a.kind) a.class class i }) b.class

pub technology_is : (a b : Technology) → a.kind ≡ b.kind → a ≡ b
technology_is a b same =
    let at = λ (k : Kind). (class : IsTrue (is_technology k)) → a ≡ record a { kind = k; class = class } in
    subst at same (λ class i. record a { class = test_once (is_technology a.kind) a.class class i }) b.class

pub unit_is : (a b : UnitKind) → a.kind ≡ b.kind → a ≡ b
unit_is a b same =
    let at = λ (k : Kind). (class : IsTrue (is_unit k)) → a ≡ record a { kind = k; class = class } in
    subst at same (λ class i. record a { class = test_once (is_unit a.kind) a.class class i }) b.class

pub work_is : (a b : Work) → a.kind ≡ b.kind → a ≡ b
work_is a b same =
    let at = λ (k : Kind). (class : IsTrue (is_work k)) → a ≡ record a { kind = k; class = class } in
    subst at same (λ class i. record a { class = test_once (is_work a.kind) a.class class i }) b.class

pub setting_is : (a b : SpeedSetting) → a.p ≡ b.p → a ≡ b
setting_is a b same =
    let at = λ (p : ℕ). (from : 1 ≤ p) (to : p ≤ 10) → a ≡ record a { p = p; from = from; to = to } in
    subst at same (λ from to i. record a { from = le_prop a.from from i; to = le_prop a.to to i }) b.from b.to

pub tenths_is : (a b : Tenths) → a.n ≡ b.n → a ≡ b
tenths_is a b same =
    let at = λ (n : ℕ). (to : n ≤ 10) → a ≡ record a { n = n; to = to } in
    subst at same (λ to i. record a { to = le_prop a.to to i }) b.to

pub count_is : (a b : Count) → a.n ≡ b.n → a ≡ b
count_is a b same =
    let at = λ (n : ℕ). (from : 1 ≤ n) (to : n ≤ UNITS) → a ≡ record a { n = n; from = from; to = to } in
    subst at same (λ from to i. record a { from = le_prop a.from from i; to = le_prop a.to to i }) b.from b.to

pub amounts_is : (a b : Amounts) → a.m ≡ b.m → a.c ≡ b.c → a.d ≡ b.d → a ≡ b
amounts_is a b metal crystal deuterium =
    let at_metal = λ (m : ℕ). (within : m ≤ CAP) → a ≡ record a { m = m; metal = within } in
    let first = subst at_metal metal (λ within i. record a { metal = le_prop a.metal within i }) b.metal in
    let x : Amounts = record a { m = b.m; metal = b.metal } in
    let at_crystal = λ (c : ℕ). (within : c ≤ CAP) → x ≡ record x { c = c; crystal = within } in
    let second = subst at_crystal crystal (λ within i. record x { crystal = le_prop x.crystal within i }) b.crystal in
    let y : Amounts = record x { c = b.c; crystal = b.crystal } in
    let at_deuterium = λ (d : ℕ). (within : d ≤ CAP) → y ≡ record y { d = d; deuterium = within } in
    let third = subst at_deuterium deuterium (λ within i. record y { deuterium = le_prop y.deuterium within i }) b.deuterium in
    first ∙ second ∙ third

pub ships_is : (a b : Ships) → a.n ≡ b.n → a ≡ b
ships_is a b same =
    let at = λ (n : List ℕ). (kinds : length n ≡ length SHIPS) (within : IsTrue (list_all (λ count. nat_le count UNITS) n)) (some : IsTrue (list_any (λ count. nat_lt 0 count) n))
    → a ≡ record a { n = n; kinds = kinds; within = within; some = some } in
    subst at same (λ kinds within some i. record a { kinds = ℕ_set (length a.n) (length SHIPS) a.kinds kinds i; within = test_once (list_all (λ count. nat_le count UNITS) a.n) a.within within i; some = test_once (list_any (λ count. nat_lt 0 count) a.n) a.some some i }) b.kinds b.within b.some
