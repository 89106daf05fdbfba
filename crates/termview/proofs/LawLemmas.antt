-- What a view shows of marks and frames.
use Rattle.std.proofs.Common.{◌≡◌, ℕ, ◌<◌, ◌≤◌, List, [], ◌∷◌, ◌++◌, take, sym}
use Rattle.std.proofs.Common.{ap, subst, ◌∙◌, arith, ⊎_elim, append_assoc}
use Rattle.std.specs.List.{AllByRecursion, concat}
use Rattle.std.proofs.lemmas.Bool.{cases_lt}
use Rattle.std.proofs.lemmas.List.Elements.{recursion_from_All}
use Rattle.vte_core.specs.Shapes.{events}
use Rattle.vte_core.specs.Ground.{AtGround}
use Rattle.vte_core.proofs.GroundLemmas.{ground-added, ground-joins}
use Rattle.vte.specs.Performed.{calls_of_all, last_after_all}
use Rattle.vte.specs.Stretch.{last_of, calls_from}
use Rattle.vte.specs.Marks.{start_mark, end_mark}
use Rattle.vte.specs.Frames.{IsFrame}
use Rattle.vte.proofs.HoldLemmas.{last_of-append}
use Rattle.vte.proofs.FrameMarks.{begun_calls, start_calls, end_calls, ground_start}
use Rattle.vte.proofs.FrameMoves.{whole_are_parsed, never_torn, mark_begun, frames_ground}
use Rattle.terminal_model.specs.Term.{Size}
use Rattle.termview.specs.Step.{view_step, view_steps}
use Rattle.termview.specs.Seen.{seen}
use Rattle.termview.specs.Laws.{MoreBytesStep, MarksShowNothing, FramesShowTheirBodies, WholeFramesAreShown}
use Rattle.termview.specs.Laws.{NoFrameIsTorn}
use Rattle.termview.proofs.CallSteps.{seen-append}

pub more_bytes : MoreBytesStep
more_bytes = seen-append

-- ---- marks

start-shows : (z : Size) (past : List ℕ) → AtGround 1024 past → seen z (past ++ start_mark) ≡ seen z past
unfolding view_step
start-shows z past g =
    seen-append z past start_mark ∙ ap (λ cs. view_steps z cs (seen z past)) (start_calls past g)

end-shows : (z : Size) (past : List ℕ) → AtGround 1024 past → seen z (past ++ end_mark) ≡ seen z past
unfolding view_step
end-shows z past g = seen-append z past end_mark ∙ ap (λ cs. view_steps z cs (seen z past)) (end_calls past g)

begun-shows : (z : Size) (past : List ℕ) (count : ℕ) → AtGround 1024 past → count ≤ 8
    → seen z (past ++ take count start_mark) ≡ seen z past
begun-shows z past count g h =
    ⊎_elim
    (λ (l : count < 8). seen-append z past (take count start_mark)
    ∙ ap (λ cs. view_steps z cs (seen z past)) (begun_calls past count g l))
    (λ (l : 8 ≤ count). let e : count ≡ 8 = omega arith in
    ap (λ n. seen z (past ++ take n start_mark)) e ∙ start-shows z past g)
    (cases_lt count 8)

pub marks_show : MarksShowNothing
marks_show z past g = (λ count h. begun-shows z past count g h, end-shows z past g)

-- ---- bodies

last_of-start : (past : List ℕ) → AtGround 1024 past → last_of (past ++ start_mark) ≡ last_of past
last_of-start past g = last_of-append past start_mark
    ∙ ap (last_after_all (last_of past)) (ground-added 1024 past start_mark g)

pub bodies_show : FramesShowTheirBodies
bodies_show z past body g b =
    let opened = past ++ start_mark in
    let at_start : AtGround 1024 opened = ground_start past in
    let at_end : AtGround 1024 (opened ++ body) = ground-joins 1024 opened body at_start b in
    let calls : calls_from opened body ≡ calls_of_all (last_of past) (events 1024 body) =
    ap (calls_of_all (last_of opened)) (ground-added 1024 opened body at_start)
    ∙ ap (λ last. calls_of_all last (events 1024 body)) (last_of-start past g) in
    ap (seen z) (sym (append_assoc past start_mark (body ++ end_mark)) ∙ sym (append_assoc opened body end_mark))
    ∙ end-shows z (opened ++ body) at_end
    ∙ seen-append z opened body
    ∙ ap (λ cs. view_steps z cs (seen z opened)) calls
    ∙ ap (view_steps z (calls_of_all (last_of past) (events 1024 body))) (start-shows z past g)

-- ---- frames

pub whole_shown : WholeFramesAreShown
whole_shown z frames moves past parsed hold g all e l =
    let is = whole_are_parsed frames moves past parsed hold all e l in
    let ground = frames_ground frames past (recursion_from_All IsFrame frames all) g in
    (ap (seen z) is.0, is.1, subst (λ (xs : List ℕ). AtGround 1024 xs) (sym is.0) ground)

all_prefix : (P : List ℕ → Type 0) (a b : List (List ℕ)) → AllByRecursion P (a ++ b) → AllByRecursion P a
all_prefix P [] b h = tt
all_prefix P (x ∷ a) b h = (h.0, all_prefix P a b h.1)

all_back : (P : List ℕ → Type 0) (a b : List (List ℕ)) → AllByRecursion P (a ++ b) → AllByRecursion P b
all_back P [] b h = h
all_back P (x ∷ a) b h = all_back P a b h.1

pub none_torn : NoFrameIsTorn
none_torn z frames pieces beyond past parsed hold g all small e l =
    let u = never_torn frames pieces beyond past parsed hold all small e l in
    let f = u.prefix in
    let each : AllByRecursion IsFrame (f.whole ++ f.rest) =
    subst (AllByRecursion IsFrame) f.frames_are (recursion_from_All IsFrame frames all) in
    let begun = mark_begun (past ++ concat f.whole) f.part parsed hold f.rest (all_back IsFrame f.whole f.rest each)
    f.is_part u.rests in
    let ground = frames_ground f.whole past (all_prefix IsFrame f.whole f.rest each) g in
    record {
      prefix = f;
      shows = ap (seen z) begun.2 ∙ begun-shows z (past ++ concat f.whole) begun.0 ground begun.1;
    }
