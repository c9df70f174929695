use Rattle.std.proofs.Common.{◌≡◌, ◌+◌, ◌<◌, [], ◌∷◌, ◌++◌, length, get_or, arith, sym, ap, ◌∙◌}
use Rattle.std.proofs.lemmas.List.{get_or_default}
use Rattle.std.proofs.lemmas.Bool.{false≢true}
use Rattle.nfs_laws.proofs.fs_spec.Walks.{none_some}
use Rattle.tree_rules.specs.declared.entries.GivenEntry.{GivenEntry}
use Rattle.tree_rules.proofs.Reading.{cookie_rises, is_a_name, is_new, read_none, read_more, read_all}
use Rattle.tree_rules.proofs.Reading.{is_listing, next_above}
use Rattle.tree_rules.proofs.entries.directory_of.Goals as goal

-- what stands past the end
abbrev blank : GivenEntry
blank = record { name = record { ref_ptr = (0, 0); now = [] }; number = 0; cookie = 0 }

pub loop-entry-init : goal.loop-entry-init
loop-entry-init c = read_none c.args.entries.now c.in_ok-directory.directory c.in_ok-directory.ensures

pub returns-then-entry-next : goal.returns-then-entry-next
returns-then-entry-next c = λ h.
    let i = c.loop-entry.entry-index in
    let inside : i < length c.args.entries.now = omega arith in
    let r =
    cookie_rises c.args.entries.now i (get_or c.args.entries.now i blank) inside
    (λ d. get_or_default c.args.entries.now i d blank inside) c.loop-entry.directory
    c.loop-entry.invariant c.args.next h in
    absurd (omega (arith, r.0, c.next.ensures, c.if-entry-next.true))

pub returns-then-next-entry : goal.returns-then-next-entry
returns-then-next-entry c = λ h.
    let i = c.loop-entry.entry-index in
    let inside : i < length c.args.entries.now = omega arith in
    let r =
    cookie_rises c.args.entries.now i (get_or c.args.entries.now i blank) inside
    (λ d. get_or_default c.args.entries.now i d blank inside) c.loop-entry.directory
    c.loop-entry.invariant c.args.next h in
    absurd (omega (arith, r.1, c.if-next-entry.true))

pub returns-then-not-is_name : goal.returns-then-not-is_name
returns-then-not-is_name c = λ h.
    let i = c.loop-entry.entry-index in
    let inside : i < length c.args.entries.now = omega arith in
    false≢true (c.if-not-is_name.ensures
    ∙ is_a_name c.args.entries.now i (get_or c.args.entries.now i blank) inside
    (λ d. get_or_default c.args.entries.now i d blank inside) c.loop-entry.directory
    c.loop-entry.invariant c.args.next h)

pub returns-in-Some : goal.returns-in-Some
returns-in-Some c = λ h.
    let i = c.loop-entry.entry-index in
    let inside : i < length c.args.entries.now = omega arith in
    none_some (sym (c.in-Some.ensures ∙ is_new c.args.entries.now i (get_or c.args.entries.now i blank) inside
    (λ d. get_or_default c.args.entries.now i d blank inside) c.loop-entry.directory
    c.loop-entry.invariant c.args.next h))

pub loop-entry-preserved : goal.loop-entry-preserved
loop-entry-preserved c =
    let i = c.loop-entry.entry-index in
    let inside : i < length c.args.entries.now = omega arith in
    let e : GivenEntry = get_or c.args.entries.now i blank in
    let name : c.in_ok-name.name.items ≡ e.name.now =
    c.in_ok-name.ensures.items_if_clones_equal (λ x y same. same) in
    read_more c.args.entries.now i e inside (λ d. get_or_default c.args.entries.now i d blank inside)
    c.loop-entry.directory c.loop-entry.invariant c.add.new.self
    (c.in_ok-add.ensures.ok ∙ ap (λ n. record {
      next = e.cookie + 1;
      entries = c.loop-entry.directory.entries ++ (n, (e.number, e.cookie)) ∷ [];
    }) name)
    (omega (arith, c.next.ensures, c.if-entry-next.false)) (sym c.if-not-is_name.ensures)
    (sym c.in_default.ensures)

pub returns-then-next : goal.returns-then-next
returns-then-next c = λ h.
    let low =
    next_above c.args.entries.now c.loop-entry.entry-index c.loop-entry.directory
    (omega arith) c.loop-entry.invariant c.args.next h in
    absurd (omega arith)

-- after the last entry all are a directory's
pub returns : goal.returns
returns c =
    let i = c.loop-entry.entry-index in (
      c.skip_to.ensures ∙ ap (λ es. record { next = c.args.next; entries = es })
          (read_all c.args.entries.now i c.loop-entry.directory (omega arith) c.loop-entry.invariant),
      is_listing c.args.entries.now i c.loop-entry.directory (omega arith) c.loop-entry.invariant c.args.next
          (omega (arith, c.next-2.ensures, c.if-next.false)),
    )
