use Rattle.std.proofs.Common.{◌≡◌, Bool, false, Option, None, Some, refl, sym, ap, ◌∙◌, subst, arith}
use Rattle.std.specs.Prelude.{◌||◌, ◌&&◌, is_some}
use Rattle.base_ids.specs.declared.cell_id.CellId.TheVariants.{Account}
use Rattle.request_text.specs.declared.request.Request.TheVariants.{Recall}
use Rattle.tick_model.specs.Views.{View}
use Rattle.closure.specs.Directory.{cells_of}
use Rattle.closure.specs.Flown.{AreFlown}
use Rattle.closure.specs.Lists.{has}
use Rattle.closure.proofs.Naming.{asks, flown-is}
use Rattle.closure.proofs.asking.asked_back.Goals as goal

none-held : (o : Option View) → false ≡ is_some o → o ≡ None
none-held None is = refl
none-held (Some view) is = absurd cc

pub returns-then-not-holds : goal.returns-then-not-holds
returns-then-not-holds g c =
    ((c.args.number, refl), none-held (g.L.CellLook.sees c.args.look.now (Account c.args.player)) (sym c.if-not-holds.true ∙ c.holds.ensures), c.requires.caller)

alone : (a l f n : Bool) → f ≡ false → f ≡ n → a ≡ (a || (l && n))
alone a l f n none same = grind (arith, none, same)

-- no fleet flies out
pub returns-in_default : goal.returns-in_default
returns-in_default g c = λ seen shows cell.
    let held = sym c.holds.ensures ∙ c.if-not-holds.false in
    let none = subst (AreFlown (g.L.CellLook.sees c.args.look.now (Account c.args.player)) c.args.player c.args.number.f) c.in_default.is c.in_ok-flown.ensures cell in
    ap (λ ids. has ids cell) c.requires.caller
    ∙ alone _ (has (cells_of c.args.places.now) cell) _ _ none (flown-is (g.L.CellLook.sees c.args.look.now) seen c.args.player c.args.number.f cell shows held)
    ∙ sym (asks c.args.places.now c.args.player (Recall c.args.number) seen cell c.requires.plays)

pub returns : goal.returns
returns g c = λ seen shows cell.
    let held = sym c.holds.ensures ∙ c.if-not-holds.false in
    let flown = (subst (AreFlown (g.L.CellLook.sees c.args.look.now (Account c.args.player)) c.args.player c.args.number.f) c.in-Some.is c.in_ok-flown.ensures).1 cell in
    let named = flown ∙ flown-is (g.L.CellLook.sees c.args.look.now) seen c.args.player c.args.number.f cell shows held in
    c.in_ok-add_all.ensures cell
    ∙ (λ i. has (c.requires.caller i) cell || (has (cells_of c.args.places.now) cell && (ap (λ ids. has ids cell) c.as_slice.ensures ∙ named) i))
    ∙ sym (asks c.args.places.now c.args.player (Recall c.args.number) seen cell c.requires.plays)
