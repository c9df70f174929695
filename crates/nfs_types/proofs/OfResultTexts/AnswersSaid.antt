-- The spelling of an answer is its bytes, told by what the answer is.
-- Serves: `write_result`, `add_list`.
use Rattle.std.proofs.Common.{◌≡◌, ℕ, List, [], ◌∷◌, ◌++◌, map, Ok, Err, refl, sym, ap, ◌∙◌, append_assoc}
use Rattle.std.specs.Prelude.{Result}
use Rattle.std.specs.List.{flat_map}
use Rattle.nfs_items.specs.xdr.Item.{pair, linked, flag, word, empty, spelling}
use Rattle.nfs_items.specs.xdr.Writing.{Adds, Appends}
use Rattle.nfs_items.specs.Handle.{fhandle}
use Rattle.nfs_items.specs.Attributes.{fattr, fattr_value}
use Rattle.nfs_items.proofs.Outcomes.{outcome_says, plain_says}
use Rattle.nfs_types.specs.Items.{path, nfsdata, entry, fs_stats}
use Rattle.nfs_types.specs.Texts.{entry_value, fs_stats_value, answer_text}
use Rattle.nfs_types.specs.Results.{answer_of, entry_of, answer_bytes}
use Rattle.nfs_types.specs.declared.results.PageEntry.{PageEntry}
use Rattle.nfs_types.specs.declared.results.NfsResult.{NfsResult}
use Rattle.nfs_types.specs.declared.results.NfsResult.TheVariants as code

-- an answer's spelling is its bytes
pub answers_say : (r : NfsResult) → answer_text (answer_of r) ≡ answer_bytes r
answers_say code.Nothing = refl
answers_say (code.Attributes r) = plain_says fattr fattr_value r
answers_say (code.DirOp r) = outcome_says (pair fhandle fattr) _ (λ x. (x.0, fattr_value x.1)) r
answers_say (code.Target r) = outcome_says path (λ t. t.now) (λ t. t) r
answers_say (code.Bytes r) = outcome_says (pair fattr nfsdata) _ (λ x. (fattr_value x.0, x.1)) r
answers_say (code.Status r) = plain_says empty (λ x. x) r
answers_say (code.Entries r) =
    outcome_says (pair (linked entry) flag) _ (λ p. (map entry_value p.entries, p.eof)) r
answers_say (code.Free r) = plain_says fs_stats fs_stats_value r

-- each entry after TRUE, and then FALSE, is the list of entries
pub entries_say : (es : List PageEntry)
    → flat_map (λ e. spelling word 1 ++ spelling entry (entry_value (entry_of e))) es ++ spelling word 0
    ≡ spelling (linked entry) (map entry_value (map entry_of es))
entries_say [] = refl
entries_say (e ∷ es) =
    append_assoc (spelling word 1 ++ spelling entry (entry_value (entry_of e))) _ _
    ∙ ap (λ (t : List ℕ). (spelling word 1 ++ spelling entry (entry_value (entry_of e))) ++ t)
    (entries_say es)
    ∙ sym (append_assoc (spelling word 1 ++ spelling entry (entry_value (entry_of e))) _ _)

-- entries that stand after what was there, and FALSE written after them, add the list
pub list_ends : {E : Type 0} (es : List PageEntry) (old middle new : List ℕ) (r : Result (Unit {0}) E)
    → middle ≡ old ++ flat_map (λ e. spelling word 1 ++ spelling entry (entry_value (entry_of e))) es
    → Appends (spelling word 0) middle r new
    → Adds (spelling (linked entry) (map entry_value (map entry_of es))) old r new
list_ends es old middle new (Ok x) entries end =
    end ∙ ap (λ (t : List ℕ). t ++ spelling word 0) entries ∙ append_assoc old _ _
    ∙ ap (λ (t : List ℕ). old ++ t) (entries_say es)
list_ends es old middle new (Err e) entries end =
    (flat_map (λ e. spelling word 1 ++ spelling entry (entry_value (entry_of e))) es, end ∙ entries)
