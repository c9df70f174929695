-- What the matches of a command hold, where clap's rules find no fault in the words: each row is an
-- argument's, and has the values of one use of it, or its defaults. For commands whose arguments are each
-- given once at most. The words are followed from left to right.
-- Serves: request_by_rules, by way of Taken.
use Rattle.std.proofs.Common.{◌≡◌, ◌∙◌, ℕ, zero, suc, Bool, true, false, List, [], ◌∷◌, ◌++◌, Option, Some}
use Rattle.std.proofs.Common.{None, IfSome, append-nil, arith, length, option_map, refl, sym, ap, subst}
use Rattle.std.specs.Prelude.{◌&&◌, ◌||◌, ◌==◌, nat_lt, option_and_then, drop, encode_utf8, find, fold}
use Rattle.std.specs.Prelude.{if◌then◌else◌, is_some, not, slice_get}
use Rattle.std.specs.List.{AllByRecursion, list_all}
use Rattle.std.specs.Option.{option_map_or}
use Rattle.std.specs.Str.{bytes_eq, chars}
use Rattle.clap.specs.Lexer.{long_of, short_of}
use Rattle.std.proofs.lemmas.Bool.{eqb-true, ne_eqb}
use Rattle.clap.specs.Facts.{explicit_source, unwrap_or_range}
use Rattle.clap.specs.Takes.{is_given}
use Rattle.clap.specs.Values.{read_as}
use Rattle.clap.specs.Kinds.{Kinds, or_else, range_kinds}
use Rattle.clap.specs.Walk.{Held, Names, Outcome, Row, Rule, Step, Text, Waiting, Walk, action_of, after_flag}
use Rattle.clap.specs.Walk.{after_step, arg_by_id, arg_by_index, arg_by_long, arg_by_short, at_row}
use Rattle.clap.specs.Walk.{bundle_met, bundle_step, default_rows, done, flag_met, has_row, idle, is_pending}
use Rattle.clap.specs.Walk.{long_met, long_or_other, more_values, most_values, next, nothing_held, option}
use Rattle.clap.specs.Walk.{option_met, option_word, plain, plain_word, positional, reacted, reading_by}
use Rattle.clap.specs.Walk.{refused, rows_after, settled, settled_rows, short_met, short_or_plain, subcommand}
use Rattle.clap.specs.Walk.{subcommand_met, subcommand_or_other, takes_several, takes_values, to_positional}
use Rattle.clap.specs.Walk.{trailing, used, used_as, used_by_id, value, values_or_missing, attached_value}
use Rattle.clap.specs.Walk.{first_of, row_text, waits, walk, walk_from, walked, walked_from, with_default}
use Rattle.clap.specs.Walk.{with_values, without, word_met}
use Rattle.clap.specs.Simple.{Shape}
use Rattle.clap.specs.Faults.{action_fault, bundle_fault, bundle_step_fault, flag_word_fault, flags_fault}
use Rattle.clap.specs.Faults.{level_fault, long_fault, option_fault, other_fault, positional_fault}
use Rattle.clap.specs.Faults.{react_fault, set_fault, settle_fault, short_fault, step_fault, stray_fault}
use Rattle.clap.specs.Faults.{turn_fault, use_fault, walk_fault, word_fault}
use Rattle.clap.specs.declared.builder.action.ArgAction.{ArgAction}
use Rattle.clap.specs.declared.builder.action.ArgAction.TheVariants as action
use Rattle.clap.specs.declared.builder.value_parser.Reading.{Reading}
use Rattle.clap.specs.declared.error.kind.ErrorKind.TheVariants as kind
use Rattle.clap.specs.declared.parser.matches.ValueSource.{ValueSource}
use Rattle.clap.specs.declared.parser.matches.ValueSource.TheVariants.{CommandLine, DefaultValue}
use Rattle.clap.proofs.WalkLemmas.{both}
use Rattle.command_line.specs.CommandLine.{is_flag_text, is_told}

-- ---- kinds of which there are none

-- where there are none of either, there are none of the first
pub none_first : (a b : Kinds) → or_else a b ≡ [] → a ≡ []
none_first [] b none = refl
none_first (k ∷ ks) b none = cc

-- nor are there any of the second
pub none_then : (a b : Kinds) → or_else a b ≡ [] → b ≡ []
none_then [] b none = none
none_then (k ∷ ks) b none = cc

-- ---- one of a list

-- x passes each test that all of the list pass
abbrev pub IsOneOf : {X : Type 0} → List X → X → Type 0
IsOneOf {X} xs x = (test : X → Bool) → list_all test xs ≡ true → test x ≡ true

-- what a search finds is one of the list, and passes its test
pub found : {X : Type 0} (p : X → Bool) (xs : List X) → IfSome (find p xs) (λ x. IsOneOf xs x × (p x ≡ true))
found p [] = tt
found {X} p (x ∷ xs) = by (p x) refl (found p xs)
  where
    later : (o : Option X) → IfSome o (λ y. IsOneOf xs y × (p y ≡ true))
        → IfSome o (λ y. IsOneOf (x ∷ xs) y × (p y ≡ true))
    later None h = tt
    later (Some y) h = (λ test all. h.0 test (both _ _ all).1, h.1)

    by : (b : Bool) → p x ≡ b → IfSome (find p xs) (λ y. IsOneOf xs y × (p y ≡ true))
        → IfSome (if b then Some x else find p xs) (λ y. IsOneOf (x ∷ xs) y × (p y ≡ true))
    by true e h = (λ test all. (both _ _ all).0, e)
    by false e h = later (find p xs) h

found_rule : (p : Rule → Bool) (c : List Rule) → IfSome (find p c) (IsOneOf c)
found_rule p c = by (find p c) (found p c)
  where
    by : (o : Option Rule) → IfSome o (λ a. IsOneOf c a × (p a ≡ true)) → IfSome o (IsOneOf c)
    by None h = tt
    by (Some a) h = h.0

-- ---- rows

-- a use keeps its values and adds none to those of an earlier one
abbrev pub sets_once : ArgAction → Bool
sets_once action.Append = false
sets_once action.Count = false
sets_once _ = true

-- the values of a use of an argument, or its defaults
pub data IsGiven (a : Rule) (values : List Text) : Type 0 where
  by_use : (given : List Text) → range_kinds (unwrap_or_range a.range).start_inclusive (most_values a)
      (length given) ≡ []
      → values ≡ values_or_missing a given → IsGiven a values
  by_default : is_some (slice_get values 0) ≡ true → values ≡ a.defaults → IsGiven a values

-- the row is one of an argument
pub record IsRowOf (c : List Rule) (r : Row) : Type 0 where
  -- the argument
  pub rule : Rule
  -- it is one of the list
  pub is_one : IsOneOf c rule
  -- the row has its id
  pub id : r.id ≡ rule.id
  -- the row's values are read as the argument's are
  pub reading : r.reading ≡ reading_by rule
  -- they are those of one use of the argument, or its defaults
  pub values : IsGiven rule r.values

-- where no row has an id, a new one stands at the end
at_end : (id : Text) (change : Row → List Row) (missing rows : List Row) → has_row id rows ≡ false
    → at_row id change missing rows ≡ rows ++ missing
at_end id change missing [] none = refl
at_end id change missing (r ∷ rs) none = by (bytes_eq r.id id) (at_end id change missing rs) none
  where
    by : (b : Bool) → (has_row id rs ≡ false → at_row id change missing rs ≡ rs ++ missing)
        → (b || has_row id rs) ≡ false
        → (if b then change r ++ rs else r ∷ at_row id change missing rs) ≡ r ∷ (rs ++ missing)
    by true ih e = cc
    by false ih e = ap (λ xs. r ∷ xs) (ih e)

-- an argument isn't given a second time
not_again : (has again : Bool) (k : Kinds) → again ≡ false → (if has && not again then k else []) ≡ []
    → (k ≡ [] → ⊥) → has ≡ false
not_again false again k once none some = refl
not_again true true k once none some = cc
not_again true false k once none some = absurd (some none)

module _ (c : List Rule) (again : Bool) (once : again ≡ false)
    (set : list_all (λ a. sets_once (action_of a)) c ≡ true) where
  abbrev AreRows : List Row → Type 0
  AreRows = AllByRecursion (IsRowOf c)

  with_more : (xs ys : List Row) → AreRows xs → AreRows ys → AreRows (xs ++ ys)
  with_more [] ys h k = k
  with_more (x ∷ xs) ys h k = (h.0, with_more xs ys h.1 k)

  -- a row for an argument that has none
  with_row : (a : Rule) (source : ValueSource) (values : List Text) (rows : List Row) → IsOneOf c a
      → IsGiven a values → has_row a.id rows ≡ false → AreRows rows
      → AreRows (with_values a.id (reading_by a) source values rows)
  with_row a source values rows one given none h =
      subst AreRows (sym (at_end a.id (more_values source values) _ rows none))
      (with_more rows _ h (record { rule = a; is_one = one; id = refl; reading = refl; values = given }, tt))

  set_keeps : (a : Rule) (values : List Text) (rows : List Row) → IsOneOf c a → IsGiven a values
      → AreRows rows → set_fault again a values rows ≡ []
      → AreRows (with_values a.id (reading_by a) CommandLine values (without a.id rows))
  set_keeps a values rows one given h none =
      let new : has_row a.id rows ≡ false = not_again _ _ _ once (none_first _ _ none) (λ e. cc) in
      let same : without a.id rows ≡ rows = at_end a.id (λ row. []) [] rows new ∙ append-nil rows in
      subst (λ rs. AreRows (with_values a.id (reading_by a) CommandLine values rs)) (sym same)
      (with_row a CommandLine values rows one given new h)

  use_keeps : (a : Rule) (values : List Text) (rows : List Row) → IsOneOf c a → AreRows rows
      → use_fault again a values rows ≡ [] → AreRows (used a values rows)
  use_keeps a values rows one h none = by (action_of a) (one _ set) (none_then _ _ none)
    where
      all : List Text
      all = values_or_missing a values

      given : IsGiven a all
      given = by_use values (none_first _ _ none) refl

      by : (x : ArgAction) → sets_once x ≡ true
          → action_fault x again a (values_or_missing a values) rows ≡ []
          → AreRows (used_as x a.id (reading_by a) (values_or_missing a values) rows)
      by action.Set e f = set_keeps a _ rows one given h f
      by action.SetTrue e f = set_keeps a _ rows one given h f
      by action.SetFalse e f = set_keeps a _ rows one given h f
      by action.Append e f = cc
      by action.Count e f = cc
      by action.Help e f = h
      by action.HelpShort e f = h
      by action.HelpLong e f = h
      by action.Version e f = h

  settle_keeps : (h : Held) → AreRows h.rows → settle_fault c again h ≡ [] → AreRows (settled c h).rows
  settle_keeps h rows none = by h.pending none
    where
      named : (o : Option Rule) (values : List Text) → IfSome o (IsOneOf c)
          → option_map_or (λ a. use_fault again a values h.rows) o [] ≡ []
          → AreRows (used_by_id o values h.rows)
      named None values one e = rows
      named (Some a) values one e = use_keeps a values h.rows one rows e

      by : (p : Option (Text × List Text))
          → option_map_or (λ p. option_map_or (λ a. use_fault again a p.1 h.rows) (arg_by_id c p.0) [])
          p [] ≡ []
          → AreRows (settled_rows c p h.rows)
      by None e = rows
      by (Some p) e = named (arg_by_id c p.0) p.1 (found_rule _ c) e

  react_keeps : (a : Rule) (values : List Text) (h : Held) → IsOneOf c a → AreRows h.rows
      → react_fault c again a values h ≡ [] → AreRows (reacted c a values h).rows
  react_keeps a values h one rows none =
      use_keeps a values _ one (settle_keeps h rows (none_first _ _ none))
      (none_then (settle_fault c again h) _ none)

  option_keeps : (a : Rule) (v : Option Text) (h : Held) → IsOneOf c a → AreRows h.rows
      → option_fault c again a v h ≡ [] → AreRows (option_met c a v h).0.rows
  option_keeps a (Some v) h one rows none = react_keeps a (v ∷ []) h one rows none
  option_keeps a None h one rows none = settle_keeps h rows none

  long_keeps : (o : Option Rule) (v : Option Text) (h : Held) → IfSome o (IsOneOf c) → AreRows h.rows
      → long_fault c again o v h ≡ [] → AreRows (long_met c o v h).0.rows
  long_keeps None v h one rows none = cc
  long_keeps (Some a) v h one rows none = by (takes_values a) refl none
    where
      flag : (v : Option Text) → (if is_some v then kind.TooManyValues ∷ [] else react_fault c again a []
          h) ≡ [] → AreRows (flag_met c a v h).0.rows
      flag (Some v) e = cc
      flag None e = react_keeps a [] h one rows e

      by : (b : Bool) → takes_values a ≡ b → long_fault c again (Some a) v h ≡ []
          → AreRows (long_met c (Some a) v h).0.rows
      by true e f = rw e (option_keeps a v h one rows (rw e at f))
      by false e f = rw e (flag v (rw e at f))

  short_keeps : (o : Option Rule) (rest : Text) (h : Held) (step : Held → Held × Outcome) (step_fault : Held
      → Kinds)
      → ((h : Held) → AreRows h.rows → step_fault h ≡ [] → AreRows (step h).0.rows)
      → IfSome o (IsOneOf c) → AreRows h.rows → short_fault c again o rest h step_fault ≡ []
      → AreRows (short_met c o rest h step).0.rows
  short_keeps None rest h step step_fault each one rows none = cc
  short_keeps (Some a) rest h step step_fault each one rows none = by (takes_values a) none
    where
      by : (b : Bool) → (if b then option_fault c again a (attached_value rest) h else or_else
          (react_fault c again a [] h) (step_fault (reacted c a [] h))) ≡ []
          → AreRows (if b then option_met c a (attached_value rest) h else step (reacted c a [] h)).0.rows
      by true e = option_keeps a (attached_value rest) h one rows e
      by false e = each (reacted c a [] h) (react_keeps a [] h one rows (none_first _ _ e)) (none_then _ _ e)

  bundle_keeps : (k : ℕ) (flags : Text) (skip : ℕ) (so_far : Outcome) (h : Held) → AreRows h.rows
      → flags_fault c again k flags skip h ≡ []
      → AreRows (bundle_met c k flags skip so_far h).0.rows
  unfolding bundle_met flags_fault
  bundle_keeps zero flags skip so_far h rows none = rows
  bundle_keeps (suc k) flags skip so_far h rows none =
      by (slice_get (chars flags) 0) skip (bundle_keeps k) none
    where
      by : (o : Option ℕ) (skip : ℕ)
          → ((flags : Text) (skip : ℕ) (so_far : Outcome) (h : Held) → AreRows h.rows
          → flags_fault c again k flags skip h ≡ []
          → AreRows (bundle_met c k flags skip so_far h).0.rows)
          → bundle_step_fault c again o flags skip h (flags_fault c again k) ≡ []
          → AreRows (bundle_step c o flags skip so_far h (bundle_met c k)).0.rows
      by None skip more e = rows
      by (Some x) zero more e =
          let rest = drop (length (encode_utf8 x)) flags in
          short_keeps (arg_by_short c x) rest h (bundle_met c k rest 0 done) (flags_fault c again k rest 0)
          (more rest 0 done) (found_rule _ c) rows e
      by (Some x) (suc skip) more e = more (drop (length (encode_utf8 x)) flags) skip so_far h rows e

  -- a word that is no flag leaves the rows as they are
  plain_keeps : (waiting : Waiting) (word : Text) (h : Held) → AreRows h.rows
      → AreRows (plain_word c waiting word h).0.rows
  plain_keeps idle word h rows = rows
  plain_keeps positional word h rows = rows
  plain_keeps (option id) word h rows = by (arg_by_id c id)
    where
      by : (o : Option Rule) → AreRows (option_word o id word h).0.rows
      by None = rows
      by (Some a) = rows

  after_keeps : (waiting : Waiting) (word : Text) (h : Held) (outcome : Outcome) → AreRows h.rows
      → AreRows (after_flag c waiting word h outcome).0.rows
  after_keeps waiting word h done rows = rows
  after_keeps waiting word h (waits id) rows = rows
  after_keeps waiting word h plain rows = plain_keeps waiting word h rows
  after_keeps waiting word h refused rows = plain_keeps waiting word h rows

  flag_keeps : (waiting : Waiting) (word : Text) (o : Option (Text × Option Text)) (h : Held) → AreRows h.rows
      → flag_word_fault c again o word h ≡ []
      → AreRows (long_or_other c waiting word o h).0.rows
  flag_keeps waiting word (Some p) h rows none =
      after_keeps waiting word _ _ (long_keeps (arg_by_long c p.0) p.1 h (found_rule _ c) rows none)
  flag_keeps waiting word None h rows none = by (short_of word) none
    where
      by : (o : Option Text) → option_map_or (λ flags. bundle_fault c again flags h) o [] ≡ []
          → AreRows (short_or_plain c waiting word o h).0.rows
      by (Some flags) e = after_keeps waiting word _ _
          (bundle_keeps (length flags) flags h.skip plain (record h { skip = 0 }) rows e)
      by None e = plain_keeps waiting word h rows

-- ---- words

module _ (s : Shape) (names : Names) (once : s.args_override_self ≡ false)
    (set : list_all (λ a. sets_once (action_of a)) s.rules ≡ true) where
  abbrev Keeps : List Row → Type 0
  Keeps = AllByRecursion (IsRowOf s.rules)

  met_keeps : (is_trailing : Bool) (waiting : Waiting) (position : ℕ) (word : Text) (h : Held) → Keeps h.rows
      → word_fault s names is_trailing waiting word h ≡ []
      → Keeps (word_met s.rules names is_trailing waiting position word h).0.rows
  met_keeps true waiting position word h rows none = rows
  met_keeps false waiting position word h rows none = by (subcommand_met names waiting word) none
    where
      by : (o : Option Text) → other_fault s o word h ≡ []
          → Keeps (subcommand_or_other s.rules o waiting position word h).0.rows
      by (Some name) e = rows
      by None e = dashes (bytes_eq word (45 ∷ 45 ∷ [])) e
        where
          dashes : (b : Bool) → (if b then [] else flag_word_fault s.rules s.args_override_self
              (long_of word) word h) ≡ []
              → Keeps (if b then (h, trailing position) else long_or_other s.rules waiting word
              (long_of word) h).0.rows
          dashes true f = rows
          dashes false f = flag_keeps s.rules s.args_override_self once set waiting word
              (long_of word) h rows f

  step_keeps : (w : Walk) (word : Text) (h : Held) (step : Step) → Keeps h.rows
      → step_fault s w.position h step ≡ []
      → Keeps (after_step s.rules word w h step).held.rows
  step_keeps w word h (next waiting) rows none = rows
  step_keeps w word h (trailing position) rows none = rows
  step_keeps w word h (subcommand name) rows none = rows
  step_keeps w word h value rows none = by (arg_by_index s.rules w.position) none
    where
      by : (o : Option Rule) → option_map_or (λ a. positional_fault s.rules s.args_override_self a h) o
          (stray_fault s) ≡ []
          → Keeps (to_positional s.rules o word w h).held.rows
      by None e = rows
      by (Some a) e = more (is_pending a h.pending && takes_several a) e
        where
          more : (b : Bool) → (if b then [] else settle_fault s.rules s.args_override_self h) ≡ []
              → Keeps (if b then h else settled s.rules h).rows
          more true f = rows
          more false f = settle_keeps s.rules s.args_override_self once set h rows f

  walk_keeps : (words : List Text) (w : Walk) → Keeps w.held.rows → walk_fault s names w words ≡ []
      → Keeps (fold (walked s.rules names) w words).held.rows
  unfolding walked walk_fault
  walk_keeps [] w rows none = rows
  walk_keeps (word ∷ words) w rows none =
      walk_keeps words (walked s.rules names w word) (by w.stopped (none_first _ _ none))
      (none_then (turn_fault s names w word) _ none)
    where
      by : (o : Option (Text × List Text))
          → (let met = word_met s.rules names w.is_trailing w.waiting w.position word w.held in
          if is_some o then [] else or_else (word_fault s names w.is_trailing w.waiting word w.held)
          (step_fault s w.position met.0 met.1)) ≡ []
          → Keeps (walked_from s.rules names o w word).held.rows
      by (Some p) e = rows
      by None e =
          let met = word_met s.rules names w.is_trailing w.waiting w.position word w.held in
          step_keeps w word met.0 met.1
          (met_keeps w.is_trailing w.waiting w.position word w.held rows (none_first _ _ e))
          (none_then (word_fault s names w.is_trailing w.waiting word w.held) _ e)

  -- the defaults of what wasn't given
  defaults_keep : (rules : List Rule)
      → ((test : Rule → Bool) → list_all test s.rules ≡ true → list_all test rules ≡ true) → (rows : List Row)
      → Keeps rows
      → Keeps (fold with_default rows rules)
  defaults_keep [] each rows h = h
  defaults_keep (a ∷ rules) each rows h =
      defaults_keep rules (λ test all. (both _ _ (each test all)).1) (with_default rows a)
      (by (has_row a.id rows) refl)
    where
      one : IsOneOf s.rules a
      one = λ test all. (both _ _ (each test all)).0

      given : (values : List Text) → values ≡ a.defaults → has_row a.id rows ≡ false
          → Keeps (default_rows a.id (reading_by a) values rows)
      given [] is e = h
      given (v ∷ vs) is e = with_row s.rules s.args_override_self once set a DefaultValue (v ∷ vs) rows one
          (by_default refl is) e h

      by : (b : Bool) → has_row a.id rows ≡ b
          → Keeps (if b then rows else default_rows a.id (reading_by a) a.defaults rows)
      by true e = h
      by false e = given a.defaults refl e

  -- where clap's rules find no fault, each row is one of an argument
  pub rows_are : (words : List Text) (has : Bool) (below : Kinds)
      → level_fault s names nothing_held words has below ≡ [] → Keeps (rows_after s.rules names words)
  rows_are words has below none =
      let end = (walk s.rules names nothing_held words).held in
      let after = none_then (walk_fault s names (walk_from nothing_held) words) _ none in
      defaults_keep s.rules (λ test all. all) _
      (settle_keeps s.rules s.args_override_self once set end
      (walk_keeps words (walk_from nothing_held) tt (none_first _ _ none))
      (none_first _ _ (none_then below _ after)))

-- ---- what the rows of an argument hold

-- the row of an id is one of an argument
found_row : (c : List Rule) (id : Text) (rows : List Row) → AllByRecursion (IsRowOf c) rows
    → IfSome (find (λ r. bytes_eq r.id id) rows) (λ r. IsRowOf c r × (bytes_eq r.id id ≡ true))
found_row c id [] h = tt
found_row c id (r ∷ rs) h = by (bytes_eq r.id id) refl (found_row c id rs h.1)
  where
    by : (b : Bool) → bytes_eq r.id id ≡ b
        → IfSome (find (λ r. bytes_eq r.id id) rs) (λ r. IsRowOf c r × (bytes_eq r.id id ≡ true))
        → IfSome (if b then Some r else find (λ r. bytes_eq r.id id) rs)
        (λ r. IsRowOf c r × (bytes_eq r.id id ≡ true))
    by true e later = (h.0, e)
    by false e later = later

-- where a fails or b holds, and a holds, b holds
pub when : (a b : Bool) → (not a || b) ≡ true → a ≡ true → b ≡ true
when true b e f = e
when false b e f = cc

-- what a test of the arguments of an id tells of that of a row
row_passes : (c : List Rule) (id : Text) (r : Row) (h : IsRowOf c r) → bytes_eq r.id id ≡ true
    → (test : Rule → Bool) → list_all (λ a. not (bytes_eq a.id id) || test a) c ≡ true
    → test h.rule ≡ true
row_passes c id r h is test all =
    when (bytes_eq h.rule.id id) (test h.rule) (h.is_one _ all) (subst (λ t. bytes_eq t id ≡ true) h.id is)

-- a use of the argument has a value
abbrev pub has_value : Rule → Bool
has_value a = nat_lt 0 (unwrap_or_range a.range).start_inclusive

-- an argument that has a value where it is given, and was given, has one
pub value_is_there : (c : List Rule) (id : Text) (rows : List Row) → AllByRecursion (IsRowOf c) rows
    → list_all (λ a. not (bytes_eq a.id id) || has_value a) c ≡ true → is_given id rows ≡ true
    → is_some (first_of id rows) ≡ true
value_is_there c id rows h all given = by (find (λ r. bytes_eq r.id id) rows) (found_row c id rows h) given
  where
    has_one : (least most : ℕ) (a : Rule) (values : List Text) → nat_lt 0 least ≡ true
        → range_kinds least most (length values) ≡ []
        → is_some (slice_get (values_or_missing a values) 0) ≡ true
    has_one least most a [] e f =
        let bad : kind.InvalidValue ∷ [] ≡ [] = rw e at f in
        cc
    has_one least most a (v ∷ vs) e f = refl

    of_rule : (a : Rule) (values : List Text) → has_value a ≡ true → IsGiven a values
        → is_some (slice_get values 0) ≡ true
    of_rule a values e (by_use given range is) =
        subst (λ vs. is_some (slice_get vs 0) ≡ true) (sym is) (has_one _ _ a given e range)
    of_rule a values e (by_default some is) = some

    by : (o : Option Row) → IfSome o (λ r. IsRowOf c r × (bytes_eq r.id id ≡ true))
        → option_map_or (λ r. explicit_source r.source) o false ≡ true
        → is_some (option_and_then (λ r. slice_get r.values 0) o) ≡ true
    by None f e = cc
    by (Some r) f e = of_rule f.0.rule r.values (row_passes c id r f.0 f.1 has_value all) f.0.values

-- the argument takes no value, and its text is that of a flag
abbrev pub is_flag : Rule → Bool
is_flag a = ((unwrap_or_range a.range).start_inclusive == 0) && ((most_values a == 0)
    && (list_all (λ t. is_flag_text (read_as (reading_by a) t)) a.missing && list_all
    (λ t. is_flag_text (read_as (reading_by a) t)) a.defaults))

-- where each argument of the id is a flag, the rows tell whether it is set
pub flag_is_told : (c : List Rule) (id : Text) (rows : List Row) → AllByRecursion (IsRowOf c) rows
    → list_all (λ a. not (bytes_eq a.id id) || is_flag a) c ≡ true → is_told id rows ≡ true
flag_is_told c id rows h all = by (find (λ r. bytes_eq r.id id) rows) (found_row c id rows h)
  where
    first : (how : Reading) (values : List Text) → list_all (λ t. is_flag_text (read_as how t)) values ≡ true
        → option_map_or is_flag_text (option_map (read_as how) (slice_get values 0)) true ≡ true
    first how [] e = refl
    first how (v ∷ vs) e = (both _ _ e).0

    takes_none : (least most n : ℕ) → least ≡ 0 → most ≡ 0 → range_kinds least most n ≡ [] → n ≡ 0
    takes_none least most zero e f g = refl
    takes_none least most (suc n) e f g =
        let differ : (0 == suc n) ≡ false = ne_eqb 0 (suc n) (λ same. absurd (omega (arith, same))) in
        let bad : kind.WrongNumberOfValues ∷ [] ≡ [] = rw (e, f, differ) at g in
        cc

    missing : (a : Rule) (given : List Text) → length given ≡ 0 → values_or_missing a given ≡ a.missing
    missing a [] e = refl
    missing a (v ∷ vs) e = absurd (omega arith)

    of_rule : (a : Rule) (values : List Text) → is_flag a ≡ true → IsGiven a values
        → option_map_or is_flag_text (option_map (read_as (reading_by a)) (slice_get values 0)) true ≡ true
    of_rule a values e given = by given
      where
        least : ℕ
        least = (unwrap_or_range a.range).start_inclusive

        are_words : List Text → Bool
        are_words texts = list_all (λ t. is_flag_text (read_as (reading_by a) t)) texts

        first_test : ((least == 0) ≡ true)
            × (((most_values a == 0) && (are_words a.missing && are_words a.defaults)) ≡ true)
        first_test = both (least == 0) ((most_values a == 0) && (are_words a.missing && are_words a.defaults))
            e

        second_test : ((most_values a == 0) ≡ true) × ((are_words a.missing && are_words a.defaults) ≡ true)
        second_test = both (most_values a == 0) (are_words a.missing && are_words a.defaults) first_test.1

        words : (are_words a.missing ≡ true) × (are_words a.defaults ≡ true)
        words = both (are_words a.missing) (are_words a.defaults) second_test.1

        of_first : (texts : List Text) → values ≡ texts → are_words texts ≡ true
            → option_map_or is_flag_text (option_map (read_as (reading_by a)) (slice_get values 0))
            true ≡ true
        of_first texts is all =
            subst (λ (vs : List Text). option_map_or is_flag_text
            (option_map (read_as (reading_by a)) (slice_get vs 0)) true ≡ true) (sym is)
            (first (reading_by a) texts all)

        by : IsGiven a values → option_map_or is_flag_text
            (option_map (read_as (reading_by a)) (slice_get values 0)) true ≡ true
        by (by_use given range is) =
            let none = takes_none least (most_values a) (length given) (eqb-true least 0 first_test.0)
            (eqb-true (most_values a) 0 second_test.0) range in
            of_first a.missing (is ∙ missing a given none) words.0
        by (by_default some is) = of_first a.defaults is words.1

    by : (o : Option Row) → IfSome o (λ r. IsRowOf c r × (bytes_eq r.id id ≡ true))
        → option_map_or is_flag_text (option_and_then row_text o) true ≡ true
    by None f = refl
    by (Some r) f =
        subst (λ (how : Reading). option_map_or is_flag_text
        (option_map (read_as how) (slice_get r.values 0)) true ≡ true) (sym f.0.reading)
        (of_rule f.0.rule r.values (row_passes c id r f.0 f.1 is_flag all) f.0.values)
