-- The text of the cells that are held is that of the universe that they show.
use Rattle.std.proofs.Common.{◌≡◌, ℕ, ◌+◌, ◌<◌, Bool, true, false, List, [], ◌∷◌, ◌++◌, length, get_or, take, map, codes, append_assoc, append-nil, Option, None, Some, refl, ap, ◌∙◌, sym, subst}
use Rattle.std.proofs.lemmas.List.{map-append, take_more}
use Rattle.std.proofs.lemmas.Grind.{flat_map-append}
use Rattle.std.specs.Prelude.{IfOk, IfSome, is_some, option_map, ◌||◌}
use Rattle.std.specs.BTreeMap.{get}
use Rattle.std.specs.declared.result.Result.{Result}
use Rattle.std.specs.declared.result.Result.TheVariants.{Ok, Err}
use Rattle.base_ids.specs.Cells.{same_cell}
use Rattle.base_ids.specs.declared.cell_id.CellId.{CellId}
use Rattle.base_ids.specs.declared.cell_id.CellId.TheVariants.{Account, Planet}
use Rattle.base_ids.specs.declared.player.Player.{Player}
use Rattle.closure.specs.Directory.{cells_of}
use Rattle.closure.proofs.Sameness.{same_cell_itself}
use Rattle.happenings.specs.Held.{IsNamed, Shows, ShowsCell, Stand, account_stand, held_at, holds, planet_stand}
use Rattle.happenings.specs.Orders.{player_order}
use Rattle.happenings.specs.declared.held.AccountCell.{AccountCell}
use Rattle.happenings.specs.declared.held.Held.{Held}
use Rattle.happenings.specs.declared.held.PlanetCell.{PlanetCell}
use Rattle.laziness.specs.Stamps.{Stamps}
use Rattle.laziness.proofs.Bringing.{never}
use Rattle.planet_cell.specs.Planet.{fields_of, queue_of}
use Rattle.request_text.specs.declared.entry.Entry.{Entry}
use Rattle.reply_text.specs.Words.{line}
use Rattle.tick_model.specs.Dump.{cell_line, cell_text, cells_text, dump_text}
use Rattle.tick_model.specs.Game.{game}
use Rattle.tick_model.specs.Keeping.{lazily_at}
use Rattle.tick_model.specs.Lines.{planet_text}
use Rattle.tick_model.specs.Requests.{is_listed}
use Rattle.tick_model.specs.Universe.{Setting, Universe}
use Rattle.tick_model.specs.Views.{view}
use Rattle.tick_model.specs.declared.rules.Rules.{Rules}
use Rattle.tick_model.proofs.Keeping.{keeps-history}
use Rattle.lazy.specs.Dumping.{held_text, stand_text}
use Rattle.lazy.specs.Keeping.{Keeps}
use Rattle.lazy.specs.declared.universe.LazyUniverse.{LazyUniverse}

-- the text of one cell more
pub text-more : {A : Type 0} (f : A → CellId) (setting : Setting) (held : Held) (before old new : List ℕ) (xs : List A) (i : ℕ) (x : A) → i < length xs → x ≡ get_or xs i x
    → old ≡ before ++ held_text setting held (map f (take i xs)) → new ≡ old ++ stand_text setting (f x) (held_at held (f x))
    → new ≡ before ++ held_text setting held (map f (take (i + 1) xs))
text-more f setting held before old new xs i x below is told more =
    let names : map f (take (i + 1) xs) ≡ map f (take i xs) ++ f x ∷ [] = ap (map f) (take_more xs i x below) ∙ map-append f (take i xs) (get_or xs i x ∷ []) ∙ ap (λ y. map f (take i xs) ++ f y ∷ []) (sym is) in
    let all : held_text setting held (map f (take (i + 1) xs)) ≡ held_text setting held (map f (take i xs)) ++ stand_text setting (f x) (held_at held (f x)) =
    ap (held_text setting held) names ∙ flat_map-append (λ cell. stand_text setting cell (held_at held cell)) (map f (take i xs)) (f x ∷ [])
    ∙ ap (λ rest. held_text setting held (map f (take i xs)) ++ rest) (append-nil (stand_text setting (f x) (held_at held (f x)))) in
    more ∙ ap (λ t. t ++ stand_text setting (f x) (held_at held (f x))) told
    ∙ append_assoc before (held_text setting held (map f (take i xs))) (stand_text setting (f x) (held_at held (f x))) ∙ ap (λ rest. before ++ rest) (sym all)

-- an account that is held has its lines
pub account-there : (setting : Setting) (held : Held) (old new : List ℕ) (player : Player) (cell : AccountCell) → IsNamed held → get player_order held.accounts player ≡ Some cell
    → new ≡ old ++ stand_text setting (Account cell.account.player) (Some (account_stand cell)) → new ≡ old ++ stand_text setting (Account player) (held_at held (Account player))
account-there setting held old new player cell named found told =
    let own : cell.account.player ≡ player = subst (λ o. IfSome o (λ c. c.account.player ≡ player)) found (named.players player) in
    let stand : held_at held (Account player) ≡ Some (account_stand cell) = ap (option_map account_stand) found in
    told ∙ (λ i. old ++ stand_text setting (Account (own i)) (sym stand i))

-- an account that isn't held has none
pub account-missing : (setting : Setting) (held : Held) (old new : List ℕ) (player : Player) → get player_order held.accounts player ≡ None
    → new ≡ old → new ≡ old ++ stand_text setting (Account player) (held_at held (Account player))
account-missing setting held old new player missing told =
    let none : held_at held (Account player) ≡ None = ap (option_map account_stand) missing in
    told ∙ sym (append-nil old) ∙ ap (λ found. old ++ stand_text setting (Account player) found) (sym none)

stand-shown : (setting : Setting) (f : Stamps (game setting)) (cell : CellId) (found : Option Stand) → IfSome found (ShowsCell setting f cell) → is_some found ≡ true
    → stand_text setting cell found ≡ cell_line cell (f.at cell) ++ cell_text setting cell (view setting.cells f.universe cell) (view setting.cells f.universe cell).own
stand-shown setting f cell None shows held = never false held refl
stand-shown setting f cell (Some stand) shows held =
    (λ i. cell_line cell (shows.second i) ++ cell_text setting cell (shows.seen i) (shows.seen i).own)

-- cells that are held and show a universe have its text
pub texts-same : (setting : Setting) (f : Stamps (game setting)) (held : Held) (names : List CellId) → Shows setting held f → ((cell : CellId) → is_listed names cell ≡ true → holds held cell ≡ true)
    → held_text setting held names ≡ cells_text setting f.at (view setting.cells f.universe) names
texts-same setting f held [] shows all = refl
texts-same setting f held (cell ∷ names) shows all =
    let here = stand-shown setting f cell (held_at held cell) (shows cell) (all cell (ap (λ b. b || is_listed names cell) (same_cell_itself cell))) in
    let later = texts-same setting f held names shows (λ other is. all other (either (same_cell other cell) (is_listed names other) is)) in
    λ i. here i ++ later i
  where
    either : (a b : Bool) → b ≡ true → (a || b) ≡ true
    either true b is = refl
    either false b is = is

-- the text of a universe that keeps a history is the dump
dump-is : (base : Universe) (history : List Entry) (lazy : LazyUniverse) → Keeps base history lazy
    → held_text base.setting lazy.cells base.setting.cells ++ line (codes "." ∷ []) ≡ dump_text base history
dump-is base history lazy keeps =
    ap (λ text. text ++ line (codes "." ∷ [])) (texts-same base.setting (lazily_at base history) lazy.cells base.setting.cells keeps.shows (λ cell is. keeps.held cell ∙ is))
    ∙ sym (keeps-history base history keeps.founded keeps.legal).dump

pub dump-ok : (base : Universe) (history : List Entry) (lazy : LazyUniverse) (text : List ℕ) → Keeps base history lazy
    → ((setting : Setting) → setting.rules ≡ lazy.rules → IsNamed lazy.cells → text ≡ held_text setting lazy.cells (cells_of lazy.places) ++ line (codes "." ∷ []))
    → text ≡ dump_text base history
dump-ok base history lazy text keeps told =
    told base.setting keeps.rules keeps.named ∙ ap (λ cells. held_text base.setting lazy.cells cells ++ line (codes "." ∷ [])) (sym keeps.directory) ∙ dump-is base history lazy keeps

pub if_map : {T E : Type 0} (r : Result T E) (P Q : T → Type 0) → ((x : T) → P x → Q x) → IfOk r P → IfOk r Q
if_map (Ok x) P Q f is = f x is
if_map (Err e) P Q f is = tt
