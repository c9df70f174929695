use Rattle.std.proofs.Common.{◌==◌, List, ℕ, length, drop, refl, sym, ap, ◌∙◌, rules, tests}
use Rattle.std.specs.List.{slice_split}
use Rattle.std.proofs.lemmas.List.{length_push}
use Rattle.std.proofs.lemmas.Iterator.Splits.{YieldsList-from_slice_split}
use Rattle.std.proofs.lemmas.Iterator.Consumers.{YieldsList-turn, YieldsList-end}
use Rattle.file_tree.specs.fs_spec.Files.{directory_entries}
use Rattle.server_spec.specs.Paths.{slash}
use Rattle.mount.proofs.Walked.{lead_on, leads_from, leads_nowhere, leads_to_end}
use Rattle.mount.proofs.paths.lead_somewhere.Goals as goal

pub loop-name-preserved : goal.loop-name-preserved
loop-name-preserved c =
    let parts : List (List ℕ) = slice_split (λ byte. byte == slash) c.args.names.now in
    let turn =
    YieldsList-turn (YieldsList-from_slice_split _ (λ byte. byte == slash) c.args.names.now (cc) (cc) refl
    (λ x b q k. search (rules, tests))) c.loop-name.yielded _ c.loop-name.yielded_by _ _
    c.in-Some.name c.in-Some.is c.next.ensures.steps in
    record {
      can = search rules;
      finite = tt;
      leads =
          ap (λ (k : ℕ). lead_on (directory_entries c.args.tree.now.files) c.in-Some-number_after.number
          (drop k parts))
          (length_push c.loop-name.yielded c.in-Some.name)
          ∙ sym (leads_from (directory_entries c.args.tree.now.files) parts
          (length c.loop-name.yielded) c.loop-name.dir c.in-Some.name.now turn.0 turn.1
          c.number_after.result _ c.number_after.ensures c.in-Some-number_after.is)
          ∙ c.loop-name.invariant.leads;
    }

pub returns-in_default : goal.returns-in_default
returns-in_default c =
    let parts : List (List ℕ) = slice_split (λ byte. byte == slash) c.args.names.now in
    let turn =
    YieldsList-turn (YieldsList-from_slice_split _ (λ byte. byte == slash) c.args.names.now (cc) (cc) refl
    (λ x b q k. search (rules, tests))) c.loop-name.yielded _ c.loop-name.yielded_by _ _
    c.in-Some.name c.in-Some.is c.next.ensures.steps in
    sym (leads_nowhere (directory_entries c.args.tree.now.files) parts
    (length c.loop-name.yielded) c.loop-name.dir c.in-Some.name.now turn.0 turn.1 c.number_after.result
    c.number_after.ensures c.in_default.is)
    ∙ c.loop-name.invariant.leads

-- after the last name the way led somewhere
pub returns : goal.returns
returns c =
    let parts : List (List ℕ) = slice_split (λ byte. byte == slash) c.args.names.now in
    let end =
    YieldsList-end (YieldsList-from_slice_split _ (λ byte. byte == slash) c.args.names.now (cc) (cc) refl
    (λ x b q k. search (rules, tests))) c.loop-name.yielded _ c.loop-name.yielded_by _ _ c.in-None.is
    c.next.ensures.steps in
    sym (leads_to_end (directory_entries c.args.tree.now.files) parts
    (length c.loop-name.yielded) c.loop-name.dir
    (sym end.1))
    ∙ c.loop-name.invariant.leads
