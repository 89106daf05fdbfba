-- `clap` names one kind of error at most for a command with no subcommand.
use Rattle.std.proofs.Common.{◌≡◌, ℕ, zero, suc, Bool, true, false, not, cond, ◌&&◌, ◌||◌, ◌==◌, nat_lt, List, [], ◌∷◌}
use Rattle.std.proofs.Common.{Option, Some, None, is_some, refl, sym, subst, length, drop, min, ◌+◌}
use Rattle.std.specs.Char.{encode_utf8}
use Rattle.std.specs.List.{list_any, slice_get}
use Rattle.std.specs.Option.{option_map_or}
use Rattle.std.specs.Str.{bytes_eq, chars}
use Rattle.clap.specs.Facts.{explicit_source, parser_of_value, unwrap_or_range}
use Rattle.clap.specs.Faults.{action_fault, bundle_fault, bundle_step_fault, check_fault, count_fault, default_fault}
use Rattle.clap.specs.Faults.{defaults_fault, fault_of, flag_word_fault, flags_fault, level_fault, long_fault}
use Rattle.clap.specs.Faults.{option_fault, other_fault, positional_fault, react_fault, repeat_fault, settle_fault}
use Rattle.clap.specs.Faults.{set_fault, short_fault, step_fault, stray_fault, turn_fault, use_fault, values_fault}
use Rattle.clap.specs.Faults.{walk_fault, given_default_fault}
use Rattle.clap.specs.Kinds.{Kinds, check_kinds, or_else, range_kinds, request_kinds, value_kinds, values_kinds}
use Rattle.clap.specs.Lexer.{long_of, short_of}
use Rattle.clap.specs.Matches.{count_text}
use Rattle.clap.specs.Simple.{Shape, argument_words, built}
use Rattle.clap.specs.Takes.{is_given}
use Rattle.clap.specs.Values.{refused_kind}
use Rattle.clap.specs.ValueTests.{accepts}
use Rattle.clap.specs.Walk.{Held, Row, Rule, Step, Text, Waiting, Walk, action_of, arg_by_id, arg_by_index, arg_by_long}
use Rattle.clap.specs.Walk.{arg_by_short, attached_value, count_of, finished, has_row, idle, is_empty, is_pending}
use Rattle.clap.specs.Walk.{most_values, nothing_held, reacted, settled, subcommand_met, takes_several, takes_values}
use Rattle.clap.specs.Walk.{value, values_or_missing, walk, walk_from, walked, with_default, word_met}
use Rattle.clap.specs.declared.builder.ArgAction.{ArgAction}
use Rattle.clap.specs.declared.builder.ArgAction.TheVariants.{Append, Count, Help, HelpLong, HelpShort, Set, SetFalse}
use Rattle.clap.specs.declared.builder.ArgAction.TheVariants.{SetTrue, Version}
use Rattle.clap.specs.declared.error.ErrorKind.TheVariants as kind
use Rattle.clap.specs.declared.builder.ValueParser.{ValueParser}
use Rattle.clap.proofs.FaultLemmas.{leaf_fault}
use Rattle.screentext_command.specs.Words.{known}

abbrev pub IsSingle : Kinds → Type 0
IsSingle [] = Unit {0}
IsSingle (k ∷ []) = Unit {0}
IsSingle (k ∷ (l ∷ ks)) = ⊥

either-one : (v : Bool) (a b : Kinds) → IsSingle a → IsSingle b → IsSingle (cond v a b)
either-one true a b s t = s
either-one false a b s t = t

then-one : (a b : Kinds) → IsSingle a → IsSingle b → IsSingle (or_else a b)
then-one [] b s t = t
then-one (k ∷ ks) b s t = s

maybe-one : {X : Type 0} (o : Option X) (f : X → Kinds) (none : Kinds) → ((x : X) → IsSingle (f x)) → IsSingle none
    → IsSingle (option_map_or f o none)
maybe-one None f none s t = t
maybe-one (Some x) f none s t = s x

-- ---- one use of an argument

value-one : (i : Bool) (p : ValueParser) (text : Text) → IsSingle (value_kinds i p text)
value-one i p text = either-one (accepts i p text) [] (refused_kind p ∷ []) tt tt

values-one : (i : Bool) (p : ValueParser) (texts : List Text) → IsSingle (values_kinds i p texts)
values-one i p [] = tt
values-one i p (v ∷ vs) = then-one (value_kinds i p v) (values_kinds i p vs) (value-one i p v) (values-one i p vs)

range-one : (least most n : ℕ) → IsSingle (range_kinds least most n)
range-one least most n = go (nat_lt 0 least && n == 0) (least == most) (least == n) (nat_lt n least) (nat_lt most n)
  where
    go : (p q r s t : Bool)
        → IsSingle (cond p (kind.InvalidValue ∷ []) (cond q (cond r [] (kind.WrongNumberOfValues ∷ []))
        (cond s (kind.TooFewValues ∷ []) (cond t (kind.TooManyValues ∷ []) []))))
    go true q r s t = tt
    go false true true s t = tt
    go false true false s t = tt
    go false false r true t = tt
    go false false r false true = tt
    go false false r false false = tt

request-one : (a : ArgAction) → IsSingle (request_kinds a)
request-one Help = tt
request-one HelpShort = tt
request-one HelpLong = tt
request-one Version = tt
request-one _ = tt

set-one : (again : Bool) (a : Rule) (values : List Text) (rows : List Row) → IsSingle (set_fault again a values rows)
set-one again a values rows =
    then-one (repeat_fault again a.id rows) (values_fault a values)
    (either-one (has_row a.id rows && not again) (kind.ArgumentConflict ∷ []) [] tt tt)
    (values-one a.ignore_case (parser_of_value a.parser) values)

count-one : (a : Rule) (values : List Text) (rows : List Row) → IsSingle (count_fault a values rows)
count-one a [] rows = value-one a.ignore_case (parser_of_value a.parser) (count_text (min (count_of a.id rows + 1) 255))
count-one a (v ∷ vs) rows = values-one a.ignore_case (parser_of_value a.parser) (v ∷ vs)

action-one : (act : ArgAction) (again : Bool) (a : Rule) (values : List Text) (rows : List Row)
    → IsSingle (action_fault act again a values rows)
action-one Set again a values rows = set-one again a values rows
action-one SetTrue again a values rows = set-one again a values rows
action-one SetFalse again a values rows = set-one again a values rows
action-one Append again a values rows = values-one a.ignore_case (parser_of_value a.parser) values
action-one Count again a values rows = count-one a values rows
action-one _ again a values rows = tt

use-one : (again : Bool) (a : Rule) (values : List Text) (rows : List Row) → IsSingle (use_fault again a values rows)
use-one again a values rows =
    then-one (range_kinds (unwrap_or_range a.range).start_inclusive (most_values a) (length values))
    (action_fault (action_of a) again a (values_or_missing a values) rows)
    (range-one (unwrap_or_range a.range).start_inclusive (most_values a) (length values))
    (action-one (action_of a) again a (values_or_missing a values) rows)

-- ---- the walk

settle-one : (c : List Rule) (again : Bool) (h : Held) → IsSingle (settle_fault c again h)
settle-one c again h =
    maybe-one h.pending (λ p. option_map_or (λ a. use_fault again a p.1 h.rows) (arg_by_id c p.0) []) []
    (λ p. maybe-one (arg_by_id c p.0) (λ a. use_fault again a p.1 h.rows) [] (λ a. use-one again a p.1 h.rows) tt) tt

react-one : (c : List Rule) (again : Bool) (a : Rule) (values : List Text) (h : Held)
    → IsSingle (react_fault c again a values h)
react-one c again a values h =
    then-one (settle_fault c again h) (use_fault again a values (settled c h).rows) (settle-one c again h)
    (use-one again a values (settled c h).rows)

option-one : (c : List Rule) (again : Bool) (a : Rule) (v : Option Text) (h : Held)
    → IsSingle (option_fault c again a v h)
option-one c again a (Some v) h = react-one c again a (v ∷ []) h
option-one c again a None h = settle-one c again h

long-one : (c : List Rule) (again : Bool) (a : Option Rule) (v : Option Text) (h : Held)
    → IsSingle (long_fault c again a v h)
long-one c again None v h = tt
long-one c again (Some a) v h =
    either-one (takes_values a) (option_fault c again a v h)
    (cond (is_some v) (kind.TooManyValues ∷ []) (react_fault c again a [] h)) (option-one c again a v h)
    (either-one (is_some v) (kind.TooManyValues ∷ []) (react_fault c again a [] h) tt (react-one c again a [] h))

short-one : (c : List Rule) (again : Bool) (a : Option Rule) (rest : Text) (h : Held) (next : Held → Kinds)
    → ((g : Held) → IsSingle (next g)) → IsSingle (short_fault c again a rest h next)
short-one c again None rest h next s = tt
short-one c again (Some a) rest h next s =
    either-one (takes_values a) (option_fault c again a (attached_value rest) h)
    (or_else (react_fault c again a [] h) (next (reacted c a [] h))) (option-one c again a (attached_value rest) h)
    (then-one (react_fault c again a [] h) (next (reacted c a [] h)) (react-one c again a [] h) (s (reacted c a [] h)))

step_of_bundle-one : (c : List Rule) (again : Bool) (x : Option ℕ) (flags : Text) (skip : ℕ) (h : Held)
    (next : Text → ℕ → Held → Kinds) → ((t : Text) (k : ℕ) (g : Held) → IsSingle (next t k g))
    → IsSingle (bundle_step_fault c again x flags skip h next)
step_of_bundle-one c again None flags skip h next s = tt
step_of_bundle-one c again (Some x) flags zero h next s =
    short-one c again (arg_by_short c x) (drop (length (encode_utf8 x)) flags) h
    (next (drop (length (encode_utf8 x)) flags) 0) (s (drop (length (encode_utf8 x)) flags) 0)
step_of_bundle-one c again (Some x) flags (suc skip) h next s = s (drop (length (encode_utf8 x)) flags) skip h

flags-one : (c : List Rule) (again : Bool) (k : ℕ) (flags : Text) (skip : ℕ) (h : Held)
    → IsSingle (flags_fault c again k flags skip h)
unfolding flags_fault
flags-one c again zero flags skip h = tt
flags-one c again (suc k) flags skip h =
    step_of_bundle-one c again (slice_get (chars flags) 0) flags skip h (flags_fault c again k) (flags-one c again k)

flag_word-one : (c : List Rule) (again : Bool) (p : Option (Text × Option Text)) (word : Text) (h : Held)
    → IsSingle (flag_word_fault c again p word h)
flag_word-one c again (Some p) word h = long-one c again (arg_by_long c p.0) p.1 h
flag_word-one c again None word h =
    maybe-one (short_of word) (λ flags. bundle_fault c again flags h) []
    (λ flags. flags-one c again (length flags) flags h.skip (record h { skip = 0 })) tt

plain-one : (s : Shape) (word : Text) (h : Held) → IsSingle (other_fault s None word h)
plain-one s word h =
    either-one (bytes_eq word (45 ∷ 45 ∷ [])) [] (flag_word_fault s.rules s.args_override_self (long_of word) word h) tt
    (flag_word-one s.rules s.args_override_self (long_of word) word h)

other-one : (s : Shape) (waiting : Waiting) (word : Text) (h : Held)
    → IsSingle (other_fault s (subcommand_met [] waiting word) word h)
other-one s idle word h = plain-one s word h
other-one s _ word h = plain-one s word h

step-one : (s : Shape) → s.is_leaf ≡ true → (position : ℕ) (h : Held) (step : Step)
    → IsSingle (step_fault s position h step)
step-one s leaf position h value =
    maybe-one (arg_by_index s.rules position) (λ a. positional_fault s.rules s.args_override_self a h) (stray_fault s)
    (λ a. either-one (is_pending a h.pending && takes_several a) [] (settle_fault s.rules s.args_override_self h) tt
    (settle-one s.rules s.args_override_self h))
    (subst (λ v. IsSingle (cond v (kind.UnknownArgument ∷ []) (kind.UnknownArgument ∷ kind.InvalidSubcommand ∷ [])))
    (sym leaf) tt)
step-one s leaf position h _ = tt

turn-one : (s : Shape) → s.is_leaf ≡ true → (w : Walk) (word : Text) → IsSingle (turn_fault s [] w word)
turn-one s leaf w word =
    let met = word_met s.rules [] w.is_trailing w.waiting w.position word w.held in
    let other = other_fault s (subcommand_met [] w.waiting word) word w.held in
    either-one (is_some w.stopped) [] (or_else (cond w.is_trailing [] other) (step_fault s w.position met.0 met.1)) tt
    (then-one (cond w.is_trailing [] other) (step_fault s w.position met.0 met.1)
    (either-one w.is_trailing [] other tt (other-one s w.waiting word w.held)) (step-one s leaf w.position met.0 met.1))

walk-one : (s : Shape) → s.is_leaf ≡ true → (w : Walk) (words : List Text) → IsSingle (walk_fault s [] w words)
unfolding walk_fault
walk-one s leaf w [] = tt
walk-one s leaf w (word ∷ rest) =
    then-one (turn_fault s [] w word) (walk_fault s [] (walked s.rules [] w word) rest) (turn-one s leaf w word)
    (walk-one s leaf (walked s.rules [] w word) rest)

-- ---- after the walk

default-one : (rows : List Row) (a : Rule) → IsSingle (default_fault rows a)
default-one rows a =
    either-one (has_row a.id rows || is_empty a.defaults) [] (given_default_fault a a.defaults) tt
    (then-one (request_kinds (action_of a)) (values_fault a a.defaults) (request-one (action_of a))
    (values-one a.ignore_case (parser_of_value a.parser) a.defaults))

defaults-one : (rows : List Row) (c : List Rule) → IsSingle (defaults_fault rows c)
unfolding defaults_fault
defaults-one rows [] = tt
defaults-one rows (a ∷ rest) =
    then-one (default_fault rows a) (defaults_fault (with_default rows a) rest) (default-one rows a)
    (defaults-one (with_default rows a) rest)

check-one : (help subcommand argument : Bool) → IsSingle (check_kinds help subcommand argument)
check-one true s a = tt
check-one false true a = tt
check-one false false true = tt
check-one false false false = tt

level-one : (s : Shape) → s.is_leaf ≡ true → (h : Held) (words : List Text)
    → IsSingle (level_fault s [] h words false [])
level-one s leaf h words =
    let end = (walk s.rules [] h words).held in
    let settled_end = settle_fault s.rules s.args_override_self end in
    let defaults = defaults_fault (settled s.rules end).rows s.rules in
    let rows = finished s.rules end in
    let check = check_fault s rows false in
    then-one (walk_fault s [] (walk_from h) words) (or_else settled_end (or_else defaults check))
    (walk-one s leaf (walk_from h) words)
    (then-one settled_end (or_else defaults check) (settle-one s.rules s.args_override_self end)
    (then-one defaults check (defaults-one (settled s.rules end).rows s.rules) (check-one
    (not false && (s.arg_required_else_help && not (list_any (λ r. explicit_source r.source) rows)))
    (not false && s.subcommand_required)
    (not (s.subcommand_negates_reqs && false) && list_any (λ a. a.required && not (is_given a.id rows)) s.rules))))

pub one_kind : (words : List Text) → IsSingle (fault_of known words)
one_kind words =
    subst IsSingle (sym (leaf_fault (built known) nothing_held (argument_words known words) refl))
    (level-one (built known).top refl nothing_held (argument_words known words))
