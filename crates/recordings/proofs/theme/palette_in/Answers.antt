use Rattle.std.proofs.Common.{◌∙◌, refl, sym, lit<, arith}
use Rattle.std.proofs.lemmas.Iterator.Consumers.{YieldsList-end, YieldsList-so_far, YieldsList-turn}
use Rattle.std.proofs.lemmas.Iterator.Splits.{YieldsList-from_str_split}
use Rattle.recordings.proofs.ThemeLemmas.{eight, next_word, no_color, no_words, other_count, past_word, sixteen}
use Rattle.recordings.proofs.ThemeLemmas.{words_of}
use Rattle.recordings.proofs.theme.palette_in.Goals as goal

pub loop-word-init : goal.loop-word-init
loop-word-init c = no_words _ refl refl

pub returns-in_err-colors : goal.returns-in_err-colors
returns-in_err-colors c =
    let turn = YieldsList-turn (YieldsList-from_str_split 58 c.args.palette.now (lit< tt) (cc) (cc) (cc))
    c.loop-word.yielded _
    c.loop-word.yielded_by _ _ c.in-Some.word c.in-Some.is c.next.ensures.steps in
    let so_far = YieldsList-so_far (YieldsList-from_str_split 58 c.args.palette.now (lit< tt) (cc) (cc) (cc))
    c.loop-word.yielded _
    c.loop-word.yielded_by in
    let none = no_color _ c.loop-word.yielded c.in-Some.word c.loop-word.end c.loop-word.colors so_far turn
    c.if-end-lt18.true
    (sym c.color_in.ensures ∙ c.in_err-colors.was) c.loop-word.invariant in
    cc

pub loop-word-preserved-then-end-lt18 : goal.loop-word-preserved-then-end-lt18
loop-word-preserved-then-end-lt18 c =
    next_word c.loop-word.yielded c.in-Some.word c.loop-word.end c.in_ok-colors.field-0 c.loop-word.colors
    c.if-end-lt18.true
    (sym c.color_in.ensures ∙ c.in_ok-colors.was) c.loop-word.invariant

pub loop-word-preserved : goal.loop-word-preserved
loop-word-preserved c =
    past_word c.loop-word.yielded c.in-Some.word c.loop-word.end c.loop-word.colors c.if-end-lt18.false
    c.loop-word.invariant

pub returns-in-18 : goal.returns-in-18
returns-in-18 c =
    let end = YieldsList-end (YieldsList-from_str_split 58 c.args.palette.now (lit< tt) (cc) (cc) (cc))
    c.loop-word.yielded _
    c.loop-word.yielded_by _ _ c.in-None.is c.next.ensures.steps in
    sixteen c.loop-word.end c.loop-word.colors _ (words_of c.loop-word.yielded) end.0 c.in-18.is c.loop-word.invariant

pub returns-in-10 : goal.returns-in-10
returns-in-10 c =
    let end = YieldsList-end (YieldsList-from_str_split 58 c.args.palette.now (lit< tt) (cc) (cc) (cc))
    c.loop-word.yielded _
    c.loop-word.yielded_by _ _ c.in-None.is c.next.ensures.steps in
    eight c.loop-word.end c.loop-word.colors c.copy_within.new.self _ (words_of c.loop-word.yielded) end.0 c.in-10.is
    c.loop-word.invariant c.copy_within.ensures.after

pub returns-in_default : goal.returns-in_default
returns-in_default c =
    let end = YieldsList-end (YieldsList-from_str_split 58 c.args.palette.now (lit< tt) (cc) (cc) (cc))
    c.loop-word.yielded _
    c.loop-word.yielded_by _ _ c.in-None.is c.next.ensures.steps in
    other_count c.loop-word.end c.loop-word.colors _ (words_of c.loop-word.yielded) end.0 (λ e. omega arith)
    (λ e. omega arith)
    c.loop-word.invariant
