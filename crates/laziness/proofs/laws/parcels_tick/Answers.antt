use Rattle.laziness.proofs.ParcelLaws.{parcel_laws, parcel_reply, parcel_stamps}
use Rattle.laziness.proofs.laws.parcels_tick.Goals as goal

abbrev pub returns : goal.returns
returns c = record {
  laws = parcel_laws;
  closures = c.closures_are_least.ensures tt;
  ends = c.seconds_end.ensures tt;
  local = c.ticks_locally.ensures tt;
  lazy = c.lazy_equals_ticking.ensures tt;
  touches = c.entries_touch_their_closure.ensures tt;
  cells = c.cells_decide.ensures tt;
  parts = c.parts_come_first.ensures tt;
  reply = parcel_reply;
  stamps = parcel_stamps;
}
