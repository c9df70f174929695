use Rattle.std.proofs.Common.{rules, ◌≡◌, Result, Ok, Err, Option, Some, None, IfOk, refl, sym, ap, ◌∙◌}
use Rattle.std.specs.Prelude.{IfSome, option_map}
use Rattle.std.specs.Result.{result_map_both}
use Rattle.nfs_spec.specs.nfs_items.CallerOf.{caller_of}
use Rattle.nfs_spec.specs.nfs_items.declared.stat.Stat.{Stat}
use Rattle.file_tree.specs.declared.name_checks.renaming.Move.{Move}
use Rattle.file_tree.specs.NameChecks.Moves.{ends_found, move_of, with_moved}
use Rattle.file_tree.proofs.OfNameChecks.Chains.{map_twice}
use Rattle.file_tree.proofs.OfNameChecks.Moved.{rename_refused, rename_checked, are_ends, may_move, one_file}
use Rattle.file_tree.proofs.name_checks.renaming.check_rename.Goals as goal

pub returns-in_err-ends-clause-effect : goal.returns-in_err-ends-clause-effect
returns-in_err-ends-clause-effect c = λ now.
    rw (rename_refused c.args.table.now (caller_of c.args.who.now) c.args.from c.args.from_name.now c.args.to
    c.args.to_name.now now c.in_err-ends.field-0.0
    (sym c.find_ends.ensures ∙ ap (result_map_both ends_found (λ e. e)) c.in_err-ends.was)) (search rules)

pub returns-clause-effect : goal.returns-clause-effect
returns-clause-effect c = λ now.
    sym (map_twice (with_moved now c.args.table.now c.args.from c.args.from_name.now c.args.to
    c.args.to_name.now) (option_map move_of) c.check_move.result)
    ∙ ap (result_map_both (with_moved now c.args.table.now c.args.from c.args.from_name.now c.args.to
    c.args.to_name.now) (λ e. e)) c.check_move.ensures
    ∙ rename_checked c.args.table.now (caller_of c.args.who.now) c.args.from c.args.from_name.now c.args.to
    c.args.to_name.now now c.in_ok-ends.ends.number c.in_ok-ends.ends.listing.now
    (sym c.find_ends.ensures ∙ ap (result_map_both ends_found (λ e. e)) c.in_ok-ends.was)

-- of the move, if there is one
if_moves : (r : Result (Option Move) Stat) (P : Move → Type 0) → ((m : Move) → r ≡ Ok (Some m) → P m)
    → IfOk r (λ o. IfSome o P)
if_moves (Ok (Some m)) P h = h m refl
if_moves (Ok None) P h = tt
if_moves (Err e) P h = tt

pub returns-clause-granted : goal.returns-clause-granted
returns-clause-granted c = if_moves c.check_move.result _ (λ m is.
    may_move c.args.table.now (caller_of c.args.who.now) c.args.from c.args.from_name.now c.args.to
    c.args.to_name.now c.in_ok-ends.ends.number c.in_ok-ends.ends.listing.now
    c.requires
    (are_ends c.args.table.now (caller_of c.args.who.now) c.args.from c.args.from_name.now c.args.to
    c.args.to_name.now c.in_ok-ends.ends.number c.in_ok-ends.ends.listing.now
    (sym c.find_ends.ensures ∙ ap (result_map_both ends_found (λ e. e)) c.in_ok-ends.was))
    (move_of m) (sym c.check_move.ensures ∙ ap (result_map_both (option_map move_of) (λ e. e)) is))

-- where nothing moves
if_none : (r : Result (Option Move) Stat) (P : Type 0) → (r ≡ Ok None → P) → IfOk r (λ o. o ≡ None → P)
if_none (Ok o) P h = λ is. h (ap (λ o. Ok o) is)
if_none (Err e) P h = tt

pub returns-clause-same : goal.returns-clause-same
returns-clause-same c = if_none c.check_move.result _ (λ is.
    one_file c.args.table.now (caller_of c.args.who.now) c.args.from c.args.from_name.now c.args.to
    c.args.to_name.now c.in_ok-ends.ends.number c.in_ok-ends.ends.listing.now
    (are_ends c.args.table.now (caller_of c.args.who.now) c.args.from c.args.from_name.now c.args.to
    c.args.to_name.now c.in_ok-ends.ends.number c.in_ok-ends.ends.listing.now
    (sym c.find_ends.ensures ∙ ap (result_map_both ends_found (λ e. e)) c.in_ok-ends.was))
    (sym c.check_move.ensures ∙ ap (result_map_both (option_map move_of) (λ e. e)) is))
