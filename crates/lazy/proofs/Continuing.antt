-- A universe goes on with the cells that a request worked out.
use Rattle.std.proofs.Common.{◌≡◌, ℕ, ◌+◌, max, Bool, true, false, not, cond, List, [], ◌∷◌, ◌++◌, Option, None, Some, refl, ap, ◌∙◌, sym, subst}
use Rattle.std.specs.Prelude.{IfSome, is_some}
use Rattle.base_ids.specs.declared.cell_id.CellId.{CellId}
use Rattle.base_ids.specs.declared.player.Player.{Player}
use Rattle.request_text.specs.declared.entry.Entry.{Entry}
use Rattle.request_text.specs.declared.request.Request.{Request}
use Rattle.laziness.specs.Stamps.{AgreeStamped, Stamps}
use Rattle.closure.specs.Directory.{cells_of}
use Rattle.happenings.specs.Held.{IsNamed, ShowsCell, Stand, held_at}
use Rattle.happenings.specs.Merging.{Merges}
use Rattle.tick_model.specs.Game.{game}
use Rattle.tick_model.specs.History.{MayFollow}
use Rattle.tick_model.specs.Keeping.{lazily_at, touched_at}
use Rattle.tick_model.specs.Standing.{last_moment, last_number}
use Rattle.tick_model.specs.Universe.{Setting, Universe}
use Rattle.tick_model.proofs.Keeping.{answers-entry}
use Rattle.tick_model.proofs.Worlds.{last_moment-more, last_number-more, legal-more}
use Rattle.lazy.specs.Keeping.{Asks, IsPrepared, Keeps, entry_of}
use Rattle.lazy.specs.declared.universe.LazyUniverse.{LazyUniverse}
use Rattle.lazy.specs.declared.universe.Prepared.{Prepared}

-- the entry that a request becomes may follow
pub may-follow : (base : Universe) (history : List Entry) (lazy : LazyUniverse) (player : Player) (req : Request) (reading : ℕ) → Keeps base history lazy
    → MayFollow (last_number base.state.number history) (last_moment base.moment history) (entry_of lazy player req reading)
may-follow base history lazy player req reading keeps = record { next = ap (λ n. n + 1) keeps.number; latest = ap (max reading) keeps.moment }

merged-held : (there here : Option Stand) → (is_some there ≡ true → is_some here ≡ true) → is_some (cond (is_some there) there here) ≡ is_some here
merged-held None here within = refl
merged-held (Some stand) here within = sym (within refl)

merged-shown : (P : Stand → Type 0) (there here : Option Stand) → IfSome there P → (is_some there ≡ false → IfSome here P) → IfSome (cond (is_some there) there here) P
merged-shown P None here first second = second refl
merged-shown P (Some stand) here first second = first

still-shown : (setting : Setting) (f g : Stamps (game setting)) (touched : CellId → Bool) (cell : CellId) (found : Option Stand) → AgreeStamped (game setting) (λ x. not (touched x)) g f
    → touched cell ≡ false → IfSome found (ShowsCell setting f cell) → IfSome found (ShowsCell setting g cell)
still-shown setting f g touched cell None agree outside shows = tt
still-shown setting f g touched cell (Some stand) agree outside shows =
    let kept : not (touched cell) ≡ true = ap not outside in
    record { second = shows.second ∙ sym (agree.at cell kept); seen = shows.seen ∙ sym (agree.view cell kept) }

-- what was worked out is one entry more
pub continues : (old new : LazyUniverse) (prepared : Prepared) (player : Player) (req : Request) (reading : ℕ) → IsPrepared old player req reading prepared
    → Merges old.cells prepared.cells new.cells → (IsNamed old.cells → IsNamed new.cells) → new.rules ≡ old.rules → new.places ≡ old.places
    → new.moment ≡ prepared.moment → new.number ≡ prepared.reply.number → Asks old new player req reading prepared.reply
continues old new prepared player req reading is merges named rules places moment number base history keeps =
    let entry = entry_of old player req reading in
    let follows = may-follow base history old player req reading keeps in
    let answers = answers-entry base history entry keeps.founded keeps.legal follows in
    let works = is.works base history keeps in
    record {
      entry = entry;
      follows = follows;
      reading_is = refl;
      player_is = refl;
      req_is = refl;
      keeps = record {
        founded = keeps.founded;
        legal = legal-more base.state.number base.moment history entry keeps.legal follows;
        rules = keeps.rules ∙ sym rules;
        directory = keeps.directory ∙ ap cells_of (sym places);
        moment = moment ∙ is.latest ∙ sym (last_moment-more base.moment history entry);
        number = number ∙ is.next ∙ sym (last_number-more base.state.number history entry);
        held = λ cell. ap is_some (merges cell) ∙ merged-held (held_at prepared.cells cell) (held_at old.cells cell) (is.within cell) ∙ keeps.held cell;
        named = named keeps.named;
        shows = λ cell. subst (λ found. IfSome found (ShowsCell base.setting (lazily_at base (history ++ entry ∷ [])) cell)) (sym (merges cell))
            (merged-shown (ShowsCell base.setting (lazily_at base (history ++ entry ∷ [])) cell) (held_at prepared.cells cell) (held_at old.cells cell) (works.shows cell)
            (λ outside. still-shown base.setting (lazily_at base history) (lazily_at base (history ++ entry ∷ [])) (touched_at base history entry) cell (held_at old.cells cell) answers.untouched (sym (works.touched cell) ∙ outside) (keeps.shows cell)));
      };
      replied = works.replied;
    }
