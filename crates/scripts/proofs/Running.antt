-- Turns, one after the other.
-- Serves: the lines of a script, and how it ends.
use Rattle.std.proofs.Common.{◌≡◌, ◌∙◌, refl, sym, ap, ap₂, subst, ℕ, List, [], ◌∷◌, ◌++◌, append_assoc}
use Rattle.std.proofs.Common.{append-nil}
use Rattle.std.proofs.Common.{Option, Some, None, Result, Ok, Err}
use Rattle.std.specs.Prelude.{IfErr, IfSome}
use Rattle.std.proofs.KnownBytes.{Appends-nil, Appends-trans}
use Rattle.std.proofs.lemmas.Grind.{flat_map-append}
use Rattle.std.specs.Io.KnownBytes.{Appends}
use Rattle.std.specs.List.{AllByRecursion}
use Rattle.witness_calls.specs.witness_service.Claims.{Claim, Held, claims_of}
use Rattle.witness_calls.specs.witness_service.declared.shared.ReceiptFault.{ReceiptFault}
use Rattle.witness_calls.specs.Closing.{IsFaulty}
use Rattle.witness_spec.specs.Starting.{KnownBase}
use Rattle.scripts.specs.Ends.{AreJoined, Began, Closes, IsEnd, IsOneBase, IsScriptEnd, IsWatch, LeavesScript, Plays, Watch}
use Rattle.scripts.specs.Ends.{Watches, Writes, WritesLines}
use Rattle.scripts.specs.Ends.{end_by, fault_after, first_fault, joined_line, joined_text, last_line, watch_text}
use Rattle.scripts.specs.Turns.{Does, IsLine, IsTurn, Leaves, Runs, TakesTurn, Turn, WritesTurns, added_by}
use Rattle.scripts.specs.Turns.{none_line, texts_of}
use Rattle.scripts.specs.declared.line.Line.{Line}
use Rattle.scripts.specs.declared.line.Line.TheVariants as lines
use Rattle.scripts.specs.declared.line.Place.{Place}
use Rattle.scripts.specs.declared.script.ScriptEnd.{ScriptEnd}
use Rattle.scripts.specs.declared.script.ScriptEnd.TheVariants as ends
use Rattle.scripts.specs.declared.stop.Stop.{Stop}

all_more : (ts : List Turn) (t : Turn) → AllByRecursion IsTurn ts → IsTurn t → AllByRecursion IsTurn (ts ++ t ∷ [])
all_more [] t all one = (one, tt)
all_more (x ∷ ts) t all one = (all.0, all_more ts t all.1 one)

-- a line that did something took its turn
pub turn_taken : (before after : Option (List ℕ)) (old : List Claim) (line : Line) (text : List ℕ) (new : List Claim)
    → Does (IsLine line) old text new → Appends before after text → TakesTurn before after old new
turn_taken before after old line text new d wrote = record {
  turn = record { line = line; text = text; claims = d.claims };
  is = d.is_so;
  wrote = wrote;
  added = d.added;
}

-- a `join` that found no base took its turn
pub none_taken : (before after : Option (List ℕ)) (old : List Claim) (place : Place)
    → Appends before after none_line → TakesTurn before after old old
none_taken before after old place wrote =
    turn_taken before after old (lines.Join place) none_line old (record {
      claims = [];
      added = sym (append-nil old);
      is_so = record { claims_are = refl; text_is = refl };
    }) wrote

-- no line was run
pub no_runs : (before : Option (List ℕ)) (old : List Claim) → Runs before before old old
no_runs before old = record {
  turns = [];
  each = tt;
  wrote = Appends-nil before;
  added = sym (append-nil old);
}

-- one turn more
pub runs_more : (a b c : Option (List ℕ)) (x y z : List Claim) → Runs a b x y → TakesTurn b c y z → Runs a c x z
runs_more a b c x y z runs takes =
    let turns : List Turn = runs.turns ++ takes.turn ∷ [] in
    let texts : texts_of turns ≡ texts_of runs.turns ++ takes.turn.text =
    flat_map-append (λ t. t.text) runs.turns (takes.turn ∷ [])
    ∙ ap (λ l. texts_of runs.turns ++ l) (append-nil takes.turn.text) in
    let claims : added_by turns ≡ added_by runs.turns ++ takes.turn.claims =
    flat_map-append (λ t. t.claims) runs.turns (takes.turn ∷ [])
    ∙ ap (λ l. added_by runs.turns ++ l) (append-nil takes.turn.claims) in
    record {
      turns = turns;
      each = all_more runs.turns takes.turn runs.each takes.is;
      wrote = subst (λ (l : List ℕ). Appends a c l) (sym texts)
          (Appends-trans a b c (texts_of runs.turns) takes.turn.text runs.wrote takes.wrote);
      added = takes.added ∙ ap (λ l. l ++ takes.turn.claims) runs.added
          ∙ append_assoc x (added_by runs.turns) takes.turn.claims ∙ ap (λ l. x ++ l) (sym claims);
    }

-- what was written of lines that ran, and nothing since
pub runs_left : (a b c : Option (List ℕ)) (x y : List Claim) → Runs a b x y → c ≡ b → WritesTurns a c
runs_left a b c x y runs same = record {
  turns = runs.turns;
  each = runs.each;
  wrote = subst (λ (w : Option (List ℕ)). Appends a w (texts_of runs.turns)) (sym same) runs.wrote;
}

-- whatever stopped the next line
pub any_left : {A : Type 0} (r : Result A Stop) (a c : Option (List ℕ)) → WritesTurns a c → IfErr r (Leaves a c)
any_left (Ok x) a c wrote = tt
any_left (Err stop) a c wrote = λ bad. wrote

-- nothing was written
pub no_turns : (before : Option (List ℕ)) → WritesTurns before before
no_turns before = record { turns = []; each = tt; wrote = Appends-nil before }

-- ---- one witness

-- where nothing was written or claimed since, the same lines ran
pub runs_same : (a b c : Option (List ℕ)) (x y z : List Claim) → Runs a b x y → c ≡ b → z ≡ y → Runs a c x z
runs_same a b c x y z runs same claims =
    subst (λ (w : Option (List ℕ)). Runs a w x z) (sym same)
    (subst (λ (l : List Claim). Runs a b x l) (sym claims) runs)

-- all lines of a witness ran, and it closed
pub watched : (bases : List KnownBase) (a b c : Option (List ℕ)) (old claims : List Claim) (end : ScriptEnd)
    → old ≡ [] → Runs a b old claims → IsEnd end → Began bases end → Closes claims end
    → Appends b c (last_line end) → Watches bases a c end
watched bases a b c old claims end none runs is began closes wrote = record {
  watch = record { bases = bases; turns = runs.turns; closing = end };
  begins = refl;
  is = record {
    began = began;
    each = runs.each;
    end = is;
    pass = subst (λ (l : List Claim). Closes l end) (runs.added ∙ ap (λ l. l ++ added_by runs.turns) none) closes;
  };
  closes = refl;
  wrote = Appends-trans a b c (texts_of runs.turns) (last_line end) runs.wrote wrote;
}

-- ---- one after the other

-- After some witnesses the next one begins so: the first one with these bases, each later one with one base.
abbrev IsNext : List KnownBase → List Watch → List KnownBase → Type 0
IsNext bases [] given = given ≡ bases
IsNext bases (w ∷ watches) given = IsOneBase given

-- Witnesses closed one after the other, another one began after each, the last one with these bases, and what is
-- printed of them was written.
pub record Joins (bases : List KnownBase) (before after : Option (List ℕ)) (fault : Option ReceiptFault)
    (given : List KnownBase) : Type 0 where
  earlier : List Watch
  each : AllByRecursion IsWatch earlier
  joined : AreJoined bases earlier
  next : IsNext bases earlier given
  wrote : Appends before after (joined_text earlier)
  is_fault : fault ≡ first_fault None earlier

-- none did yet
pub no_joins : (bases : List KnownBase) (before : Option (List ℕ)) → Joins bases before before None bases
no_joins bases before = record {
  earlier = [];
  each = tt;
  joined = tt;
  next = refl;
  wrote = Appends-nil before;
  is_fault = refl;
}

one_more : (ws : List Watch) (w : Watch) → AllByRecursion (λ x. IsOneBase x.bases) ws → IsOneBase w.bases
    → AllByRecursion (λ x. IsOneBase x.bases) (ws ++ w ∷ [])
one_more [] w each one = (one, tt)
one_more (x ∷ ws) w each one = (each.0, one_more ws w each.1 one)

joined_more : (bases : List KnownBase) (ws : List Watch) (w : Watch) → AreJoined bases ws → IsNext bases ws w.bases
    → AreJoined bases (ws ++ w ∷ [])
joined_more bases [] w joined next = (next, tt)
joined_more bases (x ∷ ws) w joined next = (joined.0, one_more ws w joined.1 next)

next_more : (bases : List KnownBase) (ws : List Watch) (w : Watch) (given : List KnownBase) → IsOneBase given
    → IsNext bases (ws ++ w ∷ []) given
next_more bases [] w given one = one
next_more bases (x ∷ ws) w given one = one

each_more : (ws : List Watch) (w : Watch) → AllByRecursion IsWatch ws → IsWatch w
    → AllByRecursion IsWatch (ws ++ w ∷ [])
each_more [] w each one = (one, tt)
each_more (x ∷ ws) w each one = (each.0, each_more ws w each.1 one)

fault_more : (known : Option ReceiptFault) (ws : List Watch) (w : Watch)
    → first_fault known (ws ++ w ∷ []) ≡ fault_after (first_fault known ws) w.closing
fault_more known [] w = refl
fault_more known (x ∷ ws) w = fault_more (fault_after known x.closing) ws w

-- one more did
pub joins_more : (bases : List KnownBase) (a b c d : Option (List ℕ)) (fault : Option ReceiptFault)
    (end : ScriptEnd) (given next : List KnownBase)
    → Joins bases a b fault given → Watches given b c end → Appends c d joined_line → IsOneBase next
    → Joins bases a d (fault_after fault end) next
joins_more bases a b c d fault end given next joins one wrote has =
    let earlier : List Watch = joins.earlier ++ one.watch ∷ [] in
    let text : joined_text earlier ≡ joined_text joins.earlier ++ (watch_text one.watch ++ joined_line) =
    flat_map-append (λ w. watch_text w ++ joined_line) joins.earlier (one.watch ∷ [])
    ∙ ap (λ l. joined_text joins.earlier ++ l) (append-nil (watch_text one.watch ++ joined_line)) in
    record {
      earlier = earlier;
      each = each_more joins.earlier one.watch joins.each one.is;
      joined = joined_more bases joins.earlier one.watch joins.joined
          (subst (IsNext bases joins.earlier) (sym one.begins) joins.next);
      next = next_more bases joins.earlier one.watch next has;
      wrote = subst (λ (l : List ℕ). Appends a d l) (sym text)
          (Appends-trans a b d (joined_text joins.earlier) (watch_text one.watch ++ joined_line) joins.wrote
          (Appends-trans b c d (watch_text one.watch) joined_line one.wrote wrote));
      is_fault = ap₂ fault_after joins.is_fault (sym one.closes)
          ∙ sym (fault_more None joins.earlier one.watch);
    }

-- the same by what is known of the first fault then
pub joins_so : (bases : List KnownBase) (a b c d : Option (List ℕ)) (fault known : Option ReceiptFault)
    (end : ScriptEnd) (given next : List KnownBase)
    → Joins bases a b fault given → Watches given b c end → Appends c d joined_line → IsOneBase next
    → known ≡ fault_after fault end → Joins bases a d known next
joins_so bases a b c d fault known end given next joins one wrote has same =
    subst (λ (f : Option ReceiptFault). Joins bases a d f next) (sym same)
    (joins_more bases a b c d fault end given next joins one wrote has)

-- the last one closed
plays : (bases : List KnownBase) (a b c : Option (List ℕ)) (fault : Option ReceiptFault) (given : List KnownBase)
    (closing end : ScriptEnd)
    → Joins bases a b fault given → Watches given b c closing → end ≡ end_by fault closing → Plays bases a c end
plays bases a b c fault given closing end joins one is = record {
  earlier = joins.earlier;
  last = one.watch;
  joined = joined_more bases joins.earlier one.watch joins.joined
      (subst (IsNext bases joins.earlier) (sym one.begins) joins.next);
  each = joins.each;
  is_last = one.is;
  wrote = Appends-trans a b c (joined_text joins.earlier) (watch_text one.watch) joins.wrote one.wrote;
  ends = is ∙ ap₂ end_by joins.is_fault (sym one.closes);
}

fault_is : (known : Option ReceiptFault) (ws : List Watch) → IfSome known IsFaulty → AllByRecursion IsWatch ws
    → IfSome (first_fault known ws) IsFaulty
fault_is known [] is each = is
fault_is known (w ∷ ws) is each =
    fault_is (fault_after known w.closing) ws (after known w.closing is each.0.end) each.1
  where
    after : (k : Option ReceiptFault) (end : ScriptEnd) → IfSome k IsFaulty → IsEnd end
        → IfSome (fault_after k end) IsFaulty
    after (Some fault) end is one = is
    after None (ends.Closed x) is one = tt
    after None (ends.NotInJournal fault) is one = one
    after None (ends.Bad line) is one = absurd one

end_is : (fault : Option ReceiptFault) (closing : ScriptEnd) → IfSome fault IsFaulty → IsEnd closing
    → IsEnd (end_by fault closing)
end_is None closing none is = is
end_is (Some fault) closing is one = is

-- so the script's end is the first fault, or how the last one closed
pub ended_so : (bases : List KnownBase) (a b c : Option (List ℕ)) (fault : Option ReceiptFault)
    (given : List KnownBase) (closing end : ScriptEnd)
    → Joins bases a b fault given → Watches given b c closing → end ≡ end_by fault closing → IsEnd end
ended_so bases a b c fault given closing end joins one is =
    subst IsEnd (sym is)
    (end_is fault closing
    (subst (λ (o : Option ReceiptFault). IfSome o IsFaulty) (sym joins.is_fault)
    (fault_is None joins.earlier tt joins.each)) (subst IsEnd one.closes one.is.end))

-- which is one of a script
pub script_end : (end : ScriptEnd) → IsEnd end → IsScriptEnd end
script_end (ends.Closed x) is = is
script_end (ends.NotInJournal fault) is = is
script_end (ends.Bad line) is = absurd is

-- and all was written
pub ended : (bases : List KnownBase) (a b c : Option (List ℕ)) (fault : Option ReceiptFault)
    (given : List KnownBase) (closing end : ScriptEnd)
    → Joins bases a b fault given → Watches given b c closing → end ≡ end_by fault closing → Writes bases a c end
ended bases a b c fault given closing (ends.Closed x) joins one is =
    plays bases a b c fault given closing (ends.Closed x) joins one is
ended bases a b c fault given closing (ends.NotInJournal x) joins one is =
    plays bases a b c fault given closing (ends.NotInJournal x) joins one is
ended bases a b c fault given closing (ends.Bad line) joins one is =
    absurd (ended_so bases a b c fault given closing (ends.Bad line) joins one is)

-- Where lines of the last one were run and then a bad one came, what is printed of all lines before it was
-- written.
pub lines_left : (bases : List KnownBase) (a b c : Option (List ℕ)) (fault : Option ReceiptFault)
    (given : List KnownBase) → Joins bases a b fault given → WritesTurns b c → WritesLines bases a c
lines_left bases a b c fault given joins turns = record {
  earlier = joins.earlier;
  each = joins.each;
  joined = joins.joined;
  turns = turns.turns;
  each_turn = turns.each;
  wrote = Appends-trans a b c (joined_text joins.earlier) (texts_of turns.turns) joins.wrote turns.wrote;
}

-- whatever stopped the next line
pub any_lines_left : {A : Type 0} (r : Result A Stop) (bases : List KnownBase) (a c : Option (List ℕ))
    → WritesLines bases a c → IfErr r (LeavesScript bases a c)
any_lines_left (Ok x) bases a c wrote = tt
any_lines_left (Err stop) bases a c wrote = λ bad. wrote

-- what stopped it, where lines of the last one were run
pub stopped : {A : Type 0} (r : Result A Stop) (bases : List KnownBase) (a b c : Option (List ℕ))
    (fault : Option ReceiptFault) (given : List KnownBase)
    → Joins bases a b fault given → IfErr r (Leaves b c) → IfErr r (LeavesScript bases a c)
stopped (Ok x) bases a b c fault given joins left = tt
stopped (Err stop) bases a b c fault given joins left =
    λ bad. lines_left bases a b c fault given joins (left bad)

-- nothing was written
pub no_lines : (bases : List KnownBase) (before : Option (List ℕ)) → WritesLines bases before before
no_lines bases before =
    lines_left bases before before before None bases (no_joins bases before) (no_turns before)

-- so whatever stopped before a line was run
pub nothing_left : {A : Type 0} (r : Result A Stop) (bases : List KnownBase) (a : Option (List ℕ))
    → IfErr r (LeavesScript bases a a)
nothing_left r bases a = any_lines_left r bases a a (no_lines bases a)

-- the claims of the one pass that was handed in
pub of_one : (handed : List Held) (pass : Held) (given : List (List Claim)) → given ≡ claims_of handed
    → handed ≡ pass ∷ [] → given ≡ pass.claims ∷ []
of_one handed pass given back one = back ∙ ap claims_of one
