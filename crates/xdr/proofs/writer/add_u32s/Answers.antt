use Rattle.std.proofs.Common.{arith, length, length-append, length-take, ◌*◌, ◌≡◌, ◌++◌, List, ℕ, ap, sym}
use Rattle.std.proofs.Common.{◌∙◌, append_assoc, take-append-drop}
use Rattle.std.specs.List.{flat_map}
use Rattle.std.proofs.lemmas.List.Concat.{flat_map-append}
use Rattle.xdr.specs.Item.{number_spelling}
use Rattle.xdr.proofs.Room.{refused}
use Rattle.xdr.proofs.writer.add_u32s.Goals as goal

more : (f : ℕ → List ℕ) (old before front some slice : List ℕ) → before ≡ old ++ flat_map f front
    → slice ≡ flat_map f some → before ++ slice ≡ old ++ flat_map f (front ++ some)
more f old before front some slice e s =
    ap (λ (t : List ℕ). t ++ slice) e ∙ append_assoc old (flat_map f front) slice
    ∙ ap (λ (t : List ℕ). old ++ (flat_map f front ++ t)) s
    ∙ ap (λ (t : List ℕ). old ++ t) (sym (flat_map-append f front some))

pub loop-rest-preserved : goal.loop-rest-preserved
loop-rest-preserved c =
    let front : List ℕ = c.loop-rest.invariant.0 in
    let some : List ℕ = c.split_at.result.0.now in
    let cut : c.loop-rest.rest.now ≡ some ++ c.split_at.result.1.now =
    rw (c.split_at.ensures.front, c.split_at.ensures.back) (sym (take-append-drop _ _)) in (
      front ++ some,
      c.loop-rest.invariant.1 ∙ ap (λ (t : List ℕ). front ++ t) cut
          ∙ sym (append_assoc front some c.split_at.result.1.now),
      c.in_ok-extend_from_slice.ensures.items
          ∙ more (number_spelling 4) c.args.out.now.items c.loop-rest.out.items front some _
          c.loop-rest.invariant.2 c.spelling_of.ensures,
      (let invariant = c.loop-rest.invariant in
          omega (
            arith,
            invariant.3,
            c.in_ok-extend_from_slice.ensures.capacity,
            c.in_ok-extend_from_slice.ensures.len,
            length-append front some,
            length-take (4 * length some) c.spelling_of.result,
          )),
    )

pub returns-in_err-extend_from_slice-clause-room : goal.returns-in_err-extend_from_slice-clause-room
returns-in_err-extend_from_slice-clause-room c =
    let invariant = c.loop-rest.invariant in
    let some : List ℕ = c.split_at.result.0.now in
    refused _ _ _ _ c.from_residual.ensures.0
    (omega (
      arith,
      invariant.3,
      c.in_err-extend_from_slice.ensures.full,
      ap length invariant.1,
      c.split_at.ensures.front_len,
      length-append {A = ℕ},
      length-take (4 * length some) c.spelling_of.result,
    ))

pub returns-clause-room : goal.returns-clause-room
returns-clause-room c =
    let invariant = c.loop-rest.invariant in
    omega (arith, invariant.3, ap length invariant.1, length-append {A = ℕ})
