-- By which books of a witness a record is answered.
-- Serves: NodeBooks::answer, answered_in_turn, is_below_base, BookSets::answer, Watch::answer, LockedWatch::answer,
-- place_of.
use Rattle.std.proofs.Common.{◌≡◌, ℕ, ◌+◌, ◌<◌, true, false, cond, ◌==◌, List, [], ◌∷◌, ◌++◌, drop, get_or}
use Rattle.std.proofs.Common.{length, set, take, append_assoc, add-one, eqb-true, Option, Some, None, inl, inr, refl, sym, ap, subst, ◌∙◌}
use Rattle.std.proofs.lemmas.List.{drop_more, get_or_default, set_split, take_more}
use Rattle.peer_calls.specs.WitnessRequests.{WitnessAsk}
use Rattle.request_streams.specs.Serving.{IsAnswerIf}
use Rattle.request_streams.specs.declared.answerer.Outcome.{Outcome}
use Rattle.request_streams.specs.declared.answerer.Outcome.TheVariants.{Replied, NoCall, NoMemory}
use Rattle.watching.specs.Shown.{StandingParts}
use Rattle.witness_process.specs.Answered.{AreAnsweredBySets, IsAbout, IsAnsweredBeside, IsAnsweredBy}
use Rattle.witness_process.specs.Answered.{IsAnsweredByBooks, IsAnsweredByOwn, IsAnsweredBySets, IsAnsweredByTwo}
use Rattle.witness_process.specs.Answered.{IsAnsweredInTurn, IsAnsweredOf, IsAnsweredUnderLock, IsPlaceOf, SaysWorse}
use Rattle.witness_process.specs.Answered.{SetsStand, TellsBelow, ask_in, books_about, books_of, kind_of, with_books}
use Rattle.witness_process.specs.declared.brought.RequestKind.{RequestKind}
use Rattle.witness_process.specs.declared.brought.RequestKind.TheVariants as kinds
use Rattle.witness_process.specs.declared.overlap.Before.{Before}
use Rattle.witness_process.specs.declared.overlap.NodeBooks.{NodeBooks}
use Rattle.witness_process.specs.declared.sets.BookSets.{BookSets}

-- what each answer of one kind is, an answer is, if there is one
pub answer_if : (A B : List ℕ → List ℕ → Type 0) (bytes text : List ℕ) (o : Outcome)
    → (A bytes text → B bytes text) → IsAnswerIf A bytes text o → IsAnswerIf B bytes text o
answer_if A B bytes text Replied f a = f a
answer_if A B bytes text NoCall f a = a
answer_if A B bytes text NoMemory f a = a

-- ---- by the books of a server

-- by the books alone
pub by_current : (kind : RequestKind) (b left : NodeBooks) (digest bytes text : List ℕ) (o : Outcome)
    → b.before ≡ None → left.before ≡ None → left.node ≡ b.node → left.begun ≡ b.begun
    → IsAnswerIf (IsAnsweredBy b.current digest left.current) bytes text o
    → IsAnswerIf (IsAnsweredByBooks kind b digest left) bytes text o
by_current kind b left digest bytes text o none stays node begun =
    answer_if (IsAnsweredBy b.current digest left.current) (IsAnsweredByBooks kind b digest left) bytes text o
    (λ x. record {
      answers = subst (λ before. IsAnsweredBeside kind b.node b.current before digest left.current left.before bytes text)
          (sym none)
          (subst (λ after. IsAnsweredBeside kind b.node b.current None digest left.current after bytes text) (sym stays) x);
      node = node;
      begun = begun;
    })

-- books that stood beside others and stand for these now
abbrev beside_as : Before → StandingParts → Before
beside_as before t = record { standing = t; at = before.at; since = before.since; unshown = before.unshown }

-- by two sets of books
by_two : (kind : RequestKind) (b left : NodeBooks) (before : Before) (t : StandingParts) (digest bytes text : List ℕ)
    → b.before ≡ Some before → left.before ≡ Some (beside_as before t) → left.node ≡ b.node → left.begun ≡ b.begun
    → IsAnsweredByTwo kind b.node b.current before.standing digest left.current t bytes text
    → IsAnsweredByBooks kind b digest left bytes text
by_two kind b left before t digest bytes text was stays node begun x = record {
  answers = subst (λ it. IsAnsweredBeside kind b.node b.current it digest left.current left.before bytes text) (sym was)
      (subst (λ it. IsAnsweredBeside kind b.node b.current (Some before) digest left.current it bytes text) (sym stays)
      (x, record { at = refl; since = refl; unshown = refl }));
  node = node;
  begun = begun;
}

-- the same of an answer, if there is one
pub by_both : (kind : RequestKind) (b left : NodeBooks) (before : Before) (t : StandingParts)
    (digest bytes text : List ℕ) (o : Outcome) → b.before ≡ Some before → left.before ≡ Some (beside_as before t)
    → left.node ≡ b.node → left.begun ≡ b.begun
    → IsAnswerIf (IsAnsweredByTwo kind b.node b.current before.standing digest left.current t) bytes text o
    → IsAnswerIf (IsAnsweredByBooks kind b digest left) bytes text o
by_both kind b left before t digest bytes text o was stays node begun =
    answer_if (IsAnsweredByTwo kind b.node b.current before.standing digest left.current t)
    (IsAnsweredByBooks kind b digest left) bytes text o
    (λ x. by_two kind b left before t digest bytes text was stays node begun x)

-- of a packet
pub by_packet : (kind : RequestKind) (node : ℕ) (s t s' t' : StandingParts) (digest bytes text : List ℕ) (o : Outcome)
    → kind ≡ kinds.Packet → IsAnswerIf (IsAnsweredInTurn s t digest s' t') bytes text o
    → IsAnswerIf (IsAnsweredByTwo kind node s t digest s' t') bytes text o
by_packet kind node s t s' t' digest bytes text o is =
    answer_if (IsAnsweredInTurn s t digest s' t') (IsAnsweredByTwo kind node s t digest s' t') bytes text o
    (λ x. subst (λ k. IsAnsweredByTwo k node s t digest s' t' bytes text) (sym is) x)

-- of faults, where the second set says worse, by it
pub by_worse : (kind : RequestKind) (node : ℕ) (s t s' t' left : StandingParts) (digest bytes text : List ℕ)
    (o : Outcome) → kind ≡ kinds.Faults → SaysWorse node s t true s' t'
    → IsAnswerIf (IsAnsweredBy t' digest left) bytes text o
    → IsAnswerIf (IsAnsweredByTwo kind node s t digest s' left) bytes text o
by_worse kind node s t s' t' left digest bytes text o is says =
    answer_if (IsAnsweredBy t' digest left) (IsAnsweredByTwo kind node s t digest s' left) bytes text o
    (λ x. subst (λ k. IsAnsweredByTwo k node s t digest s' left bytes text) (sym is)
    (record { worse = true; asked = s'; asked_before = t'; says = says; answers = (x, refl) }))

-- else by the first
pub by_better : (kind : RequestKind) (node : ℕ) (s t s' t' left : StandingParts) (digest bytes text : List ℕ)
    (o : Outcome) → kind ≡ kinds.Faults → SaysWorse node s t false s' t'
    → IsAnswerIf (IsAnsweredBy s' digest left) bytes text o
    → IsAnswerIf (IsAnsweredByTwo kind node s t digest left t') bytes text o
by_better kind node s t s' t' left digest bytes text o is says =
    answer_if (IsAnsweredBy s' digest left) (IsAnsweredByTwo kind node s t digest left t') bytes text o
    (λ x. subst (λ k. IsAnsweredByTwo k node s t digest left t' bytes text) (sym is)
    (record { worse = false; asked = s'; asked_before = t'; says = says; answers = (x, refl) }))

-- of another kind, by the first
pub by_other : (kind : RequestKind) (node : ℕ) (s t left : StandingParts) (digest bytes text : List ℕ) (o : Outcome)
    → kind ≡ kinds.Other → IsAnswerIf (IsAnsweredBy s digest left) bytes text o
    → IsAnswerIf (IsAnsweredByTwo kind node s t digest left t) bytes text o
by_other kind node s t left digest bytes text o is =
    answer_if (IsAnsweredBy s digest left) (IsAnsweredByTwo kind node s t digest left t) bytes text o
    (λ x. subst (λ k. IsAnsweredByTwo k node s t digest left t bytes text) (sym is) (x, refl))

-- a packet that doesn't lie below the base, by the first
pub by_first : (s t left : StandingParts) (digest bytes text : List ℕ) (o : Outcome)
    → (o ≡ Replied → ¬ TellsBelow text) → IsAnswerIf (IsAnsweredBy s digest left) bytes text o
    → IsAnswerIf (IsAnsweredInTurn s t digest left t) bytes text o
by_first s t left digest bytes text Replied above x = (text, x, inl (above refl, refl, refl))
by_first s t left digest bytes text NoCall above x = x
by_first s t left digest bytes text NoMemory above x = x

-- one that does, by the second
pub by_second : (s t s' t' : StandingParts) (digest bytes first text : List ℕ) (o : Outcome) → TellsBelow first
    → IsAnsweredBy s digest s' bytes first → IsAnswerIf (IsAnsweredBy t digest t') bytes text o
    → IsAnswerIf (IsAnsweredInTurn s t digest s' t') bytes text o
by_second s t s' t' digest bytes first text o below x =
    answer_if (IsAnsweredBy t digest t') (IsAnsweredInTurn s t digest s' t') bytes text o
    (λ y. (first, x, inr (below, y)))

-- ---- by all books

-- by those of all others
pub by_shared : (sets left : BookSets) (asked : Option WitnessAsk) (digest bytes text : List ℕ) (o : Outcome)
    → None ≡ ask_in bytes → left.own.items ≡ sets.own.items
    → IsAnswerIf (IsAnsweredBy sets.shared digest left.shared) bytes text o
    → IsAnswerIf (IsAnsweredBySets sets digest left) bytes text o
by_shared sets left asked digest bytes text o is stay =
    answer_if (IsAnsweredBy sets.shared digest left.shared) (IsAnsweredBySets sets digest left) bytes text o
    (λ x. subst (λ it. IsAnsweredOf it sets digest left bytes text) is (x, stay))

-- what is about somebody without own books, by those
pub by_all_others : (sets left : BookSets) (ask : WitnessAsk) (whom : Option ℕ) (digest bytes text : List ℕ)
    (o : Outcome) → Some ask ≡ ask_in bytes → IsAbout sets.shared.books.roster ask whom
    → books_about whom sets.own.items ≡ None → left.own.items ≡ sets.own.items
    → IsAnswerIf (IsAnsweredBy sets.shared digest left.shared) bytes text o
    → IsAnswerIf (IsAnsweredBySets sets digest left) bytes text o
by_all_others sets left ask whom digest bytes text o is about none stay =
    answer_if (IsAnsweredBy sets.shared digest left.shared) (IsAnsweredBySets sets digest left) bytes text o
    (λ x. subst (λ it. IsAnsweredOf it sets digest left bytes text) is (
      whom,
      about,
      subst (λ found. IsAnsweredByOwn found (kind_of ask) sets digest left bytes text) (sym none) (x, stay),
    ))

-- what is about somebody with own books, by these
pub by_own : (sets left : BookSets) (ask : WitnessAsk) (whom : Option ℕ) (node place : ℕ) (b after : NodeBooks)
    (digest bytes text : List ℕ) (o : Outcome) → Some ask ≡ ask_in bytes → IsAbout sets.shared.books.roster ask whom
    → IsPlaceOf sets.own.items (books_about whom sets.own.items) node place → b ≡ get_or sets.own.items place b
    → left.own.items ≡ set sets.own.items place after → left.shared ≡ sets.shared
    → IsAnswerIf (IsAnsweredByBooks (kind_of ask) b digest after) bytes text o
    → IsAnswerIf (IsAnsweredBySets sets digest left) bytes text o
by_own sets left ask whom node place b after digest bytes text o is about at there put shared =
    answer_if (IsAnsweredByBooks (kind_of ask) b digest after) (IsAnsweredBySets sets digest left) bytes text o
    (λ x. subst (λ it. IsAnsweredOf it sets digest left bytes text) is (
      whom,
      about,
      subst (λ it. IsAnsweredByOwn it (kind_of ask) sets digest left bytes text) (sym (at.here b there).0)
          (after, x, put ∙ sym (at.put after (x.node ∙ (at.here b there).1)), shared),
    ))

-- whatever they are led on to
pub by_sets : (sets left : BookSets) (digest bytes text : List ℕ) (o : Outcome)
    → IsAnswerIf (IsAnsweredBySets sets digest left) bytes text o
    → IsAnswerIf (AreAnsweredBySets sets digest) bytes text o
by_sets sets left digest bytes text o =
    answer_if (IsAnsweredBySets sets digest left) (AreAnsweredBySets sets digest) bytes text o (λ x. (left, x))

-- by books that lay under a lock
pub under_lock : (sets : BookSets) (digest bytes text : List ℕ) (o : Outcome) → SetsStand sets
    → IsAnswerIf (AreAnsweredBySets sets digest) bytes text o → IsAnswerIf (IsAnsweredUnderLock digest) bytes text o
under_lock sets digest bytes text o stand =
    answer_if (AreAnsweredBySets sets digest) (IsAnsweredUnderLock digest) bytes text o
    (λ x. record { sets = sets; stand = stand; answers = x })

-- ---- the place of a node's books

-- those at a place are a node's, where those before are not
pub is_place : (node : ℕ) (own : List NodeBooks) (place : ℕ) (here : NodeBooks) → place < length own
    → books_of node own ≡ books_of node (drop place own)
    → ((left : NodeBooks) → left.node ≡ node → with_books left own ≡ take place own ++ with_books left (drop place own))
    → here ≡ get_or own place here → (here.node == node) ≡ true → IsPlaceOf own (books_of node own) node place
is_place node own place here inside before passed at is = record {
  inside = inside;
  here = λ b there. (
    found ∙ ap (λ x. Some x) (same b there),
    ap (λ (x : NodeBooks). x.node) (sym (same b there)) ∙ eqb-true here.node node is,
  );
  put = put;
}
  where
    rest : drop place own ≡ here ∷ drop (place + 1) own
    rest = drop_more own place here inside ∙ ap (λ x. x ∷ drop (place + 1) own) (sym at)

    found : books_of node own ≡ Some here
    found = before ∙ ap (λ l. books_of node l) rest
        ∙ ap (λ x. cond x (Some here) (books_of node (drop (place + 1) own))) is

    same : (b : NodeBooks) → b ≡ get_or own place b → here ≡ b
    same b there = at ∙ get_or_default own place here b inside ∙ sym there

    put : (left : NodeBooks) → left.node ≡ node → with_books left own ≡ set own place left
    put left same_node =
        let split : set own place left ≡ take place own ++ left ∷ drop (place + 1) own =
        rw add-one (set_split own place left inside) in
        passed left same_node ∙ ap (λ x. take place own ++ x) (
        ap (λ l. with_books left l) rest
        ∙ ap (λ x. cond x (left ∷ drop (place + 1) own) (here ∷ with_books left (drop (place + 1) own)))
        (ap (λ n. here.node == n) same_node ∙ is)
        ) ∙ sym split

-- what stands at a place and is another node's is passed
pub passed : (node : ℕ) (own : List NodeBooks) (place : ℕ) (here : NodeBooks) → place < length own
    → ((left : NodeBooks) → left.node ≡ node → with_books left own ≡ take place own ++ with_books left (drop place own))
    → here ≡ get_or own place here → (here.node == node) ≡ false → (left : NodeBooks) → left.node ≡ node
    → with_books left own ≡ take (place + 1) own ++ with_books left (drop (place + 1) own)
passed node own place here inside before at differs left same =
    before left same
    ∙ ap (λ x. take place own ++ with_books left x)
    (drop_more own place here inside ∙ ap (λ x. x ∷ drop (place + 1) own) (sym at))
    ∙ ap (λ x. take place own ++ cond x (left ∷ drop (place + 1) own) (here ∷ rest))
    (ap (λ n. here.node == n) same ∙ differs)
    ∙ sym (append_assoc (take place own) (here ∷ []) rest)
    ∙ ap (λ x. x ++ rest) (ap (λ x. take place own ++ x ∷ []) at ∙ sym (take_more own place here inside))
  where
    rest : List NodeBooks
    rest = with_books left (drop (place + 1) own)
