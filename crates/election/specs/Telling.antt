-- A5, from answers to an IV: the highest view that each box told, and the VS that is made of them.
use Rattle.std.specs.Prelude.{ℕ, zero, suc, max, ◌^◌, ◌≡◌, List, [], ◌∷◌, ◌++◌, leb, get_or, set, Result, Ok, Err}
use Rattle.terms.specs.Choice.{pick}
use Rattle.terms.specs.Checks.{Check, passed, or_else, when, if_less, range, table}
use Rattle.terms.specs.Group.{boxes, group_wrong}
use Rattle.terms.specs.declared.Refusal.{Refusal}
use Rattle.records.specs.declared.Ballot.{Ballot}
use Rattle.records.specs.declared.ViewList.{ViewList}
use Rattle.records.specs.declared.ViewMark.TheVariants.{VS}
use Rattle.records.specs.Views.{Views, held_views}
use Rattle.records.specs.Contents.{views_wrong}
use Rattle.rules.specs.Fallback.{largest_view}
use Rattle.sheet.specs.Masks.{has, with_box}
use Rattle.election.specs.declared.Highest.{Highest}

-- which boxes have told a view, as a mask, and the view of each
pub record Heights : Type 0 where
  pub told : ℕ
  pub views : List ℕ

-- 14, then 16: a box n or more on the mask
unfoldable pub heights_wrong : ℕ → ℕ → Check
heights_wrong f told = or_else (group_wrong f) (when (leb (2 ^ boxes f) told) table)

-- then 5: a box n or more, or a view above 65,535
unfoldable pub tell_wrong : ℕ → ℕ → ℕ → ℕ → Check
tell_wrong told f number view = or_else (heights_wrong f told) (or_else (when (leb (boxes f) number) range) (if_less largest_view view range))

-- a box's first view is taken, then a higher one
unfoldable pub taller_by : Check → ℕ → List ℕ → ℕ → ℕ → Heights
taller_by (Ok _) told views number view =
    record {
      told = pick (has told number) told (with_box told number);
      views = set views number (pick (has told number) (max (get_or views number 0) view) view);
    }
taller_by (Err r) told views number view = record { told = told; views = views }

unfoldable pub taller : ℕ → List ℕ → ℕ → ℕ → ℕ → Heights
taller told views f number view = taller_by (tell_wrong told f number view) told views number view

-- what is answered: the refusal, or what has been told then
unfoldable pub highest : ℕ → List ℕ → ℕ → ℕ → ℕ → Result Highest Refusal
highest told views f number view =
    or_else (tell_wrong told f number view)
    (Ok (record { told = (taller told views f number view).told; views = (taller told views f number view).views }))

-- the boxes below n that have told, in rising order
unfoldable pub told_below : ℕ → List ℕ → ℕ → List Ballot
told_below told views zero = []
told_below told views (suc n) =
    told_below told views n ++ pick (has told n) (record { number = n; answer = 0; view = record { 0 = get_or views n 0 } } ∷ []) []

unfoldable pub views_for : ℕ → List ℕ → ℕ → Views
views_for told views f = record { leader = 0; decision = 0; view = 0; ballots = told_below told views (boxes f) }

-- or the refusal
unfoldable pub telling : ℕ → List ℕ → ℕ → Result ViewList Refusal
telling told views f = or_else (heights_wrong f told) (Ok (held_views (views_for told views f)))

-- what is listed is in order
abbrev pub ListedIsRight : Type 0
ListedIsRight = (told : ℕ) (views : List ℕ) (f : ℕ) → group_wrong f ≡ passed → views_wrong VS f (views_for told views f) ≡ passed
