use Rattle.std.proofs.Common.{◌≡◌, ℕ, ◌==◌, ◌≤◌, Bool, true, false, refl, subst, sym, arith, Ok, Err}
use Rattle.std.specs.Prelude.{IfSome}
use Rattle.std.proofs.lemmas.Bool.{le-leb}
use Rattle.std.proofs.lemmas.List.{length-map}
use Rattle.std.proofs.lemmas.Result.{err_from_is_err_and}
use Rattle.xdr.specs.ReadFault.{xdr_fault}
use Rattle.xdr.specs.Item.{Item, Value}
use Rattle.xdr.specs.Reading.{Read, read_at}
use Rattle.xdr.specs.ArraysAndUnions.{choice_ok, choice_err_unless}
use Rattle.authenticator.specs.declared.roster.TheConstants.{MAX_MEMBERS, SECOND_FORM}
use Rattle.authenticator.specs.Roster.{is_roster_word, members_item, members_value, roster_item}
use Rattle.authenticator.specs.Roster.{versioned_item, versioned_value}
use Rattle.authenticator.proofs.Forms.{array_few, first_is_read, first_item, no_second}
use Rattle.authenticator.proofs.listed.read_listed.Goals as goal

-- what stands after the first word
after : ℕ → Item
after n = members_item (n == SECOND_FORM) n

-- a count of few members may be the first word
is_word : (n : ℕ) → n ≤ MAX_MEMBERS → is_roster_word n ≡ true
is_word n few = rw (le-leb n MAX_MEMBERS few) refl

pub returns-in_err-members : goal.returns-in_err-members
unfolding after
returns-in_err-members c =
    let p = err_from_is_err_and c.from_residual-in_err-members.result
    c.from_residual-in_err-members.ensures.1 in
    rw (p.1, p.2)
    (choice_err_unless is_roster_word after c.args.reader.now SECOND_FORM c.u32.new.self
    (xdr_fault c.in_err-members.field-0.0) (rw c.if-word.true at c.in_ok-word.ensures) refl
    c.in_err-members.ensures.0)

pub invariant_of-result : goal.invariant_of-result
invariant_of-result c =
    let ms = c.in_ok-members.members.items in (
      omega (
        arith,
        length-map ms versioned_value,
        array_few versioned_item MAX_MEMBERS _ _ c.in_ok-members.ensures,
      ),
      λ e. absurd cc,
    )

pub returns-then-word : goal.returns-then-word
unfolding after
returns-then-word c =
    choice_ok is_roster_word after c.args.reader.now SECOND_FORM c.u32.new.self _ c.read_array.new.reader
    (rw c.if-word.true at c.in_ok-word.ensures) refl c.in_ok-members.ensures

pub returns-in_err-members-2 : goal.returns-in_err-members-2
unfolding after
returns-in_err-members-2 c =
    let n = c.in_ok-word.word in
    let fault = xdr_fault c.in_err-members-2.field-0.0 in
    let p = err_from_is_err_and c.from_residual-in_err-members-2.result
    c.from_residual-in_err-members-2.ensures.1 in
    rw (p.1, p.2)
    (choice_err_unless is_roster_word after c.args.reader.now n c.u32.new.self fault c.in_ok-word.ensures
    (is_word n c.if-word-gt-MAX_MEMBERS.false)
    (subst (λ (a : Item). IfSome fault (λ f. read_at a c.u32.new.self ≡ Err f))
    (sym (first_item n c.if-word-gt-MAX_MEMBERS.false)) c.in_err-members-2.ensures.gives))

pub returns : goal.returns
unfolding after
returns c =
    let n = c.in_ok-word.word in
    let ms = c.in_ok-members-2.members.items in
    let count = c.in_ok-members-2.ensures.count in
    let few = c.if-word-gt-MAX_MEMBERS.false in
    subst (λ (k : ℕ). ◌≡◌ {A = Read (Value roster_item)} (read_at roster_item c.args.reader.now)
    (Ok ((k, members_value (k == SECOND_FORM) k ms), c.read_members.new.reader)))
    (sym count)
    (choice_ok is_roster_word after c.args.reader.now n c.u32.new.self
    (members_value (n == SECOND_FORM) n ms) c.read_members.new.reader c.in_ok-word.ensures (is_word n few)
    (first_is_read n ms c.u32.new.self c.read_members.new.reader few count c.in_ok-members-2.ensures.gives))
