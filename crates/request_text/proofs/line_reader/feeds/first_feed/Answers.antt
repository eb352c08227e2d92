use Rattle.request_text.proofs.FeedSearch.{feed_found, no_feed}
use Rattle.request_text.proofs.Tails.{if_none}
use Rattle.request_text.proofs.line_reader.feeds.first_feed.Goals as goal

pub returns-in_err-place : goal.returns-in_err-place
returns-in_err-place c =
    if_none c.from_residual.result _ _ c.from_residual.ensures (no_feed c.args.bytes.now c.args.clean c.requires.within c.requires.clean c.in_err-place.ensures)

pub returns : goal.returns
returns c = let found = c.in_ok-place.ensures in feed_found c.args.bytes.now c.args.clean c.in_ok-place.place c.requires.within c.requires.clean found.0 found.1
