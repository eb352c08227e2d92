use Rattle.std.proofs.Common.{All, subst, sym}
use Rattle.base_bytes.specs.Kept.{AccountKeeps, EachKeeps, PlanetKeeps}
use Rattle.base_bytes.proofs.keeping.each_keeps.Goals as goal

pub returns-then-all_planets_keep : goal.returns-then-all_planets_keep
returns-then-all_planets_keep c =
    let base = c.args.base.now in (
      λ yes. record {
        accounts = subst (All (AccountKeeps base.moment base.number)) c.deref.ensures.value (c.all_accounts_keep.ensures.0 c.if-not-all_accounts_keep.false);
        planets = subst (All (PlanetKeeps base.moment base.number)) c.deref-2.ensures.value (c.all_planets_keep.ensures.0 c.if-all_planets_keep.true);
        fleets = c.all_fleets_sound.ensures.0 yes;
      },
      λ keeps. c.all_fleets_sound.ensures.1 keeps.fleets,
    )
