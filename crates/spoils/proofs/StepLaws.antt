-- The steps of loading and of scraping are shares, and only they are.
use Rattle.std.proofs.Common.{◌≡◌, ℕ, ◌-◌, ◌/◌, min, ap, ◌∙◌, refl, arith}
use Rattle.spoils.proofs.ShareLemmas.{share_bounds, share_is}
use Rattle.spoils.specs.Harvest.{IsScraping, Scraping, scraping}
use Rattle.spoils.specs.Loot.{IsLoading, Loading, loading}
use Rattle.spoils.specs.Shares.{IsShare}

-- the share of a whole room
pub whole : (room there taken : ℕ) → taken ≡ min room there → IsShare room 1 there taken
whole room there taken is = record { within = omega (arith, is); fits = omega (arith, is); most = λ more. omega (arith, is, more) }

whole_is : (room there taken : ℕ) → IsShare room 1 there taken → taken ≡ min room there
whole_is room there taken share = let all : room / 1 ≡ room = omega arith in share_is room 1 there taken (omega arith) share ∙ ap (λ (n : ℕ). min n there) all

pub loading_is : (room metal crystal deuterium : ℕ) → IsLoading room metal crystal deuterium (loading room metal crystal deuterium)
unfolding loading
loading_is room metal crystal deuterium =
    record {
      first_metal = share_bounds room 3 metal (omega arith);
      first_crystal = share_bounds _ 2 crystal (omega arith);
      first_deuterium = whole _ deuterium _ refl;
      second_metal = share_bounds _ 2 _ (omega arith);
      second_crystal = whole _ _ _ refl;
    }

made_loading : (room metal crystal deuterium first_metal first_crystal first_deuterium second_metal second_crystal : ℕ)
    → first_metal ≡ min (room / 3) metal
    → first_crystal ≡ min ((room - first_metal) / 2) crystal
    → first_deuterium ≡ min (room - first_metal - first_crystal) deuterium
    → second_metal ≡ min ((room - first_metal - first_crystal - first_deuterium) / 2) (metal - first_metal)
    → second_crystal ≡ min (room - first_metal - first_crystal - first_deuterium - second_metal) (crystal - first_crystal)
    → record { first_metal = first_metal; first_crystal = first_crystal; first_deuterium = first_deuterium; second_metal = second_metal; second_crystal = second_crystal }
    ≡ loading room metal crystal deuterium
unfolding loading
made_loading room metal crystal deuterium first_metal first_crystal first_deuterium second_metal second_crystal a b c d e = rw (e, d, c, b, a) refl

pub loading_once : (room metal crystal deuterium : ℕ) (steps : Loading) → IsLoading room metal crystal deuterium steps → steps ≡ loading room metal crystal deuterium
loading_once room metal crystal deuterium steps is =
    made_loading room metal crystal deuterium steps.first_metal steps.first_crystal steps.first_deuterium steps.second_metal steps.second_crystal
    (share_is _ 3 _ _ (omega arith) is.first_metal)
    (share_is _ 2 _ _ (omega arith) is.first_crystal)
    (whole_is _ _ _ is.first_deuterium)
    (share_is _ 2 _ _ (omega arith) is.second_metal)
    (whole_is _ _ _ is.second_crystal)

pub scraping_is : (room metal crystal : ℕ) → IsScraping room metal crystal (scraping room metal crystal)
unfolding scraping
scraping_is room metal crystal =
    record {
      first_metal = share_bounds room 2 metal (omega arith);
      first_crystal = whole _ crystal _ refl;
      second_metal = whole _ _ _ refl;
    }

made_scraping : (room metal crystal first_metal first_crystal second_metal : ℕ)
    → first_metal ≡ min (room / 2) metal
    → first_crystal ≡ min (room - first_metal) crystal
    → second_metal ≡ min (room - first_metal - first_crystal) (metal - first_metal)
    → record { first_metal = first_metal; first_crystal = first_crystal; second_metal = second_metal } ≡ scraping room metal crystal
unfolding scraping
made_scraping room metal crystal first_metal first_crystal second_metal a b c = rw (c, b, a) refl

pub scraping_once : (room metal crystal : ℕ) (steps : Scraping) → IsScraping room metal crystal steps → steps ≡ scraping room metal crystal
scraping_once room metal crystal steps is =
    made_scraping room metal crystal steps.first_metal steps.first_crystal steps.second_metal
    (share_is _ 2 _ _ (omega arith) is.first_metal)
    (whole_is _ _ _ is.first_crystal)
    (whole_is _ _ _ is.second_metal)
