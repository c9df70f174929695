-- The longest front of entries where none fits.
-- Serves: `Filling::add`.
use Rattle.std.proofs.Common.{◌≡◌, ℕ, ◌<◌, ◌==◌, ◌&&◌, Bool, true, false, List, [], ◌∷◌, ◌++◌, length, refl}
use Rattle.std.proofs.Common.{sym, ap, arith}
use Rattle.std.proofs.lemmas.Bool.{cond-false, lt-leb, ne_eqb}
use Rattle.nfs_spec.specs.nfs_types.Calls.{PageEntry, Page}
use Rattle.nfs_spec.specs.Readdir.{cost, longest_front}

-- none, where the first does not fit
front_none : (room : ℕ) (e : PageEntry) (es : List PageEntry) → room < cost e
    → longest_front room (e ∷ es) ≡ []
front_none room e es lt = cond-false _ _ _ (lt-leb (cost e) room lt)

-- none, where no room is left
pub front_zero : (es : List PageEntry) → longest_front 0 es ≡ []
front_zero [] = refl
front_zero (e ∷ es) = front_none 0 e es (omega arith)

abbrev page_made : List PageEntry → Bool → Page
page_made entries eof = record { entries = entries; eof = eof }

-- one that does not fit ends a page, and more is left
pub left_out : (shown : List PageEntry) (all : Bool) (room : ℕ) (e : PageEntry) (es : List PageEntry)
    → room < cost e
    → page_made (shown ++ longest_front 0 es) false
    ≡ page_made (shown ++ longest_front room (e ∷ es))
    (all && (length (longest_front room (e ∷ es)) == length (e ∷ es)))
left_out shown all room e es lt =
    rw (front_zero es, front_none room e es lt)
    (ap (page_made (shown ++ []))
    (by all (0 == length (e ∷ es)) (ne_eqb 0 (length (e ∷ es)) (omega arith))))
  where
    by : (b more : Bool) → more ≡ false → false ≡ b && more
    by true more is = sym is
    by false more is = refl
