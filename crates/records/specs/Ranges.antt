-- Which entries bytes can spell. Rule: docs/FORMATS.md, "Entries".
use Rattle.std.specs.Prelude.{◌≡◌, ℕ, ◌^◌, ◌<◌, ◌≤◌, List, length, slice_index}
use Rattle.base_ids.specs.declared.numbers.TheConstants.{LAST_NUMBER}
use Rattle.ports.specs.declared.clock.TheConstants.{LATEST}
use Rattle.records.specs.declared.fields.Head.{Head}
use Rattle.records.specs.declared.fields.Order.{Order}
use Rattle.records.specs.declared.fields.Load.{Load}
use Rattle.request_text.specs.declared.entry.Entry.{Entry}

-- an entry whose number, moment and reading are in their ranges; the ranges of all else stand in the types
pub record IsInRange (entry : Entry) : Type 0 where
  pub from : 1 ≤ entry.number
  pub to : entry.number ≤ LAST_NUMBER
  pub moment : entry.moment ≤ LATEST
  pub reading : entry.reading ≤ entry.moment

-- numbers that fit in the bytes that they have
pub record HeadFits (head : Head) : Type 0 where
  pub number : head.number < 2 ^ 64
  pub moment : head.moment < 2 ^ 64
  pub reading : head.reading < 2 ^ 64
  pub player : head.player < 2 ^ 32

pub record OrderFits (order : Order) : Type 0 where
  pub from : order.from.s < 2 ^ 16
  pub to : order.to.s < 2 ^ 16
  pub count : order.count < 2 ^ 32
  pub fleet : order.fleet < 2 ^ 64

-- so many counts that fit
pub record CountsFit (counts : List ℕ) (n : ℕ) : Type 0 where
  pub size : length counts ≡ n
  pub each : (k : ℕ) → k < n → slice_index counts k < 2 ^ 32

pub record LoadFits (load : Load) : Type 0 where
  pub metal : load.metal < 2 ^ 64
  pub crystal : load.crystal < 2 ^ 64
  pub deuterium : load.deuterium < 2 ^ 64
  pub ships : CountsFit load.ships 13
