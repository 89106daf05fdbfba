-- What a filter reads.
use Rattle.std.proofs.Common.{◌≡◌, ℕ, ◌+◌, ◌-◌, ◌<◌, ◌≤◌, true, false, List, [], ◌∷◌, ◌++◌, length, take, drop}
use Rattle.std.proofs.Common.{if◌then◌else◌, Option, None, sym, ◌∙◌, ap, subst, arith, append-nil, append_assoc}
use Rattle.std.proofs.Common.{length-append, length-drop, length-take, get_or, ◌*◌}
use Rattle.std.proofs.Math.Seq.{take-add, take-length}
use Rattle.vte_core.specs.Event.{Event, Performs}
use Rattle.vte_core.specs.Bytes.{is_esc}
use Rattle.vte_core.specs.Pending.{InText, events_from, events_of_byte, pending}
use Rattle.vte_core.specs.Standing.{IsAfter}
use Rattle.vte_core.specs.Reported.{Reported}
use Rattle.vte_core.specs.declared.parser.Parser.{Parser}
use Rattle.vte_core.proofs.AddedLemmas.{added-is, added-from}
use Rattle.vte_core.proofs.Machine.{after_bytes-append}
use Rattle.charset_filter.specs.Sets.{after_event, after_events}
use Rattle.charset_filter.specs.Behind.{behind}
use Rattle.charset_filter.specs.Given.{drawn_by, last_behind, last_drawn, given_after, given_byte, given_for, sets_of}
use Rattle.charset_filter.specs.Filter.{HasRead, Gives, ends_both, is_sequence}
use Rattle.charset_filter.specs.Steady.{IsSteady, IsSteadyRun, place_at}
use Rattle.charset_filter.specs.declared.steady.Place.TheVariants.{Outside}
use Rattle.charset_filter.specs.declared.sets.CharacterSets.{CharacterSets}
use Rattle.charset_filter.specs.declared.listener.Listener.{Listener}
use Rattle.charset_filter.specs.declared.filter.CharsetFilter.{CharsetFilter}
use Rattle.charset_filter.proofs.GivenLengths.{AreShort, byte-short, given-len}
use Rattle.charset_filter.proofs.LawLemmas.{sound-after, given-past, sets-past}
use Rattle.charset_filter.proofs.SequenceLemmas.{outside-after}
use Rattle.charset_filter.proofs.SteadyLemmas.{run-unchanged}

-- what the performers have gone through

abbrev pub SetsStep : CharacterSets → Event → CharacterSets → Type 0
SetsStep p e q = q ≡ after_event p e

abbrev pub ListenerStep : Listener → Event → Listener → Type 0
ListenerStep p e q = (q.sets ≡ after_event p.sets e) × (q.drawn ≡ drawn_by p.sets p.drawn e)
    × (length (behind p.sets e) ≤ 252 → q.behind.items ≡ behind p.sets e)

sets-performed : (p q : CharacterSets) (es : List Event) → Performs SetsStep p es q → q ≡ after_events p es
sets-performed p q [] h = h
sets-performed p q (e ∷ es) h = sets-performed h.0 q es h.2 ∙ ap (λ (x : CharacterSets). after_events x es) h.1

record Heard (p q : Listener) (es : List Event) : Type 0 where
  sets : q.sets ≡ after_events p.sets es
  drawn : q.drawn ≡ last_drawn p.sets p.drawn es
  behind : q.behind.items ≡ last_behind p.sets p.behind.items es

listener-performed : (p q : Listener) (es : List Event) → Performs ListenerStep p es q → AreShort p.sets es
    → Heard p q es
listener-performed p q [] h short = record {
  sets = ap (λ (x : Listener). x.sets) h;
  drawn = ap (λ (x : Listener). x.drawn) h;
  behind = ap (λ (x : Listener). x.behind.items) h;
}
listener-performed p q (e ∷ es) h short =
    let step = h.1 in
    let more = listener-performed h.0 q es h.2 (subst (λ (x : CharacterSets). AreShort x es) (sym step.0) short.1) in
    record {
      sets = more.sets ∙ ap (λ (x : CharacterSets). after_events x es) step.0;
      drawn = more.drawn ∙ (ap (λ (x : CharacterSets). last_drawn x h.0.drawn es) step.0
          ∙ ap (λ (d : Option ℕ). last_drawn (after_event p.sets e) d es) step.1);
      behind = more.behind ∙ (ap (λ (x : CharacterSets). last_behind x h.0.behind.items es) step.0
          ∙ ap (λ (bs : List ℕ). last_behind (after_event p.sets e) bs es) (step.2 short.0));
    }

-- the events so far are those of what is pending
reported-is : {S : Type 0} (step : S → Event → S → Type 0) (parser : Parser 0) (old new : S) (past bytes : List ℕ)
    (h : Reported step 0 parser old bytes new) → IsAfter 0 parser past → h.reported ≡ events_from 0 (pending past) bytes
reported-is step parser old new past bytes h state_after =
    added-is 0 past bytes h.reported (h.added past state_after) ∙ added-from 0 past bytes

pub sets-reported : (parser : Parser 0) (old new : CharacterSets) (past bytes : List ℕ)
    → Reported SetsStep 0 parser old bytes new → IsAfter 0 parser past → old ≡ sets_of past → new
    ≡ sets_of (past ++ bytes)
sets-reported parser old new past bytes h state_after is =
    sets-performed old new h.reported h.performed
    ∙ (ap (after_events old) (reported-is SetsStep parser old new past bytes h state_after)
    ∙ (ap (λ (x : CharacterSets). after_events x (events_from 0 (pending past) bytes)) is ∙ sym (sets-past past bytes)))

-- a byte is heard
listener-reported : (parser : Parser 0) (old new : Listener) (past : List ℕ) (b : ℕ)
    → Reported ListenerStep 0 parser old (b ∷ []) new → IsAfter 0 parser past
    → Heard old new (events_of_byte 0 (pending past) b)
listener-reported parser old new past b h state_after =
    let es = events_of_byte 0 (pending past) b in
    let is : h.reported ≡ es = reported-is ListenerStep parser old new past (b ∷ []) h state_after ∙ append-nil es in
    listener-performed old new es (subst (λ (xs : List Event). Performs ListenerStep old xs new) is h.performed)
    (byte-short (pending past) old.sets b)

-- a steady run

pub steady-run : (old new : CharsetFilter) (bytes prefix : List ℕ) (k : ℕ) (before after : List ℕ) → k ≤ length bytes
    → IsSteady old.listener.sets → old.in_sequence ≡ false → IsSteadyRun (take k bytes) → prefix ≡ take k bytes
    → ((past : List ℕ) → IsAfter 0 old.parser past → IsAfter 0 new.parser (past ++ prefix))
    → Reported SetsStep 0 old.parser old.listener.sets prefix new.listener.sets → after ≡ before ++ prefix
    → Gives old bytes k new before after
steady-run old new bytes prefix k before after within steady out run all state_after reported is =
    let unchanged = λ (past : List ℕ) (h : HasRead old past).
    run-unchanged Outside (pending past) (sets_of past) prefix (sound-after (InText []) past tt)
    (subst IsSteady h.sets steady) (h.outside out) (ap (place_at Outside) all ∙ run) in
    record {
      within = within;
      reads = λ past h. subst (λ (xs : List ℕ). HasRead new (past ++ xs)) all (record {
        state_after = state_after past h.state_after;
        sets = sets-reported old.parser old.listener.sets new.listener.sets past prefix reported h.state_after h.sets;
        outside = λ none. ap is_sequence (after_bytes-append (InText []) past prefix) ∙ (unchanged past h).outside;
      });
      given = λ past h. subst (λ (xs : List ℕ). after ≡ before ++ given_after past xs) all
          (is ∙ ap (λ (xs : List ℕ). before ++ xs) (sym (unchanged past h).given));
    }

-- one byte

pub byte-read : (old new : CharsetFilter) (b : ℕ) (listener heard : Listener) → listener.sets ≡ old.listener.sets
    → new.listener.sets ≡ heard.sets
    → ((past : List ℕ) → IsAfter 0 old.parser past → IsAfter 0 new.parser (past ++ b ∷ []))
    → Reported ListenerStep 0 old.parser listener (b ∷ []) heard
    → new.in_sequence ≡ (if is_esc b then true else (if ends_both b then false else old.in_sequence))
    → (past : List ℕ) → HasRead old past → HasRead new (past ++ b ∷ [])
byte-read old new b listener heard same is state_after reported flag past h =
    let es = events_of_byte 0 (pending past) b in
    record {
      state_after = state_after past h.state_after;
      sets = is ∙ ((listener-reported old.parser listener heard past b reported h.state_after).sets
          ∙ (ap (λ (x : CharacterSets). after_events x es) (same ∙ h.sets)
          ∙ (ap (after_events (sets_of past)) (sym (append-nil es)) ∙ sym (sets-past past (b ∷ [])))));
      outside = λ none. ap is_sequence (after_bytes-append (InText []) past (b ∷ []))
          ∙ outside-after (pending past) b old.in_sequence h.outside (sym flag ∙ none);
    }

pub byte-drawn : (old : CharsetFilter) (b : ℕ) (listener heard : Listener) → listener.sets ≡ old.listener.sets
    → listener.drawn ≡ None → Reported ListenerStep 0 old.parser listener (b ∷ []) heard → (past : List ℕ)
    → HasRead old past → heard.drawn ≡ last_drawn old.listener.sets None (events_of_byte 0 (pending past) b)
byte-drawn old b listener heard same none reported past h =
    let es = events_of_byte 0 (pending past) b in
    (listener-reported old.parser listener heard past b reported h.state_after).drawn
    ∙ (ap (λ (x : CharacterSets). last_drawn x listener.drawn es) same
    ∙ ap (λ (d : Option ℕ). last_drawn old.listener.sets d es) none)

pub byte-behind : (old : CharsetFilter) (b : ℕ) (listener heard : Listener) → listener.sets ≡ old.listener.sets
    → listener.behind.items ≡ [] → Reported ListenerStep 0 old.parser listener (b ∷ []) heard → (past : List ℕ)
    → HasRead old past → heard.behind.items ≡ last_behind old.listener.sets [] (events_of_byte 0 (pending past) b)
byte-behind old b listener heard same none reported past h =
    let es = events_of_byte 0 (pending past) b in
    (listener-reported old.parser listener heard past b reported h.state_after).behind
    ∙ (ap (λ (x : CharacterSets). last_behind x listener.behind.items es) same
    ∙ ap (λ (bs : List ℕ). last_behind old.listener.sets bs es) none)

pub byte-gives : (old new : CharsetFilter) (bytes : List ℕ) (drawn : Option ℕ) (behind before mid next after : List ℕ)
    → 0 < length bytes → ((past : List ℕ) → HasRead old past → HasRead new (past ++ get_or bytes 0 0 ∷ []))
    → ((past : List ℕ) → HasRead old past
    → drawn ≡ last_drawn old.listener.sets None (events_of_byte 0 (pending past) (get_or bytes 0 0)))
    → ((past : List ℕ) → HasRead old past
    → behind ≡ last_behind old.listener.sets [] (events_of_byte 0 (pending past) (get_or bytes 0 0)))
    → mid ≡ before → next ≡ mid ++ given_byte (get_or bytes 0 0) drawn → after ≡ next ++ behind
    → Gives old bytes 1 new before after
byte-gives old new [] drawn behind before mid next after some reads draws stands same is ends =
    absurd (omega (arith, some))
byte-gives old new (b ∷ bs) drawn behind before mid next after some reads draws stands same is ends = record {
  within = omega arith;
  reads = reads;
  given = λ past h.
      let es = events_of_byte 0 (pending past) b in
      let sets = sets_of past in
      let d : drawn ≡ last_drawn sets None es = draws past h
      ∙ ap (λ (x : CharacterSets). last_drawn x None es) h.sets in
      let k : behind ≡ last_behind sets [] es = stands past h
      ∙ ap (λ (x : CharacterSets). last_behind x [] es) h.sets in
      let all : (before ++ given_byte b drawn) ++ behind ≡ before ++ given_for (pending past) sets b =
      append_assoc before (given_byte b drawn) behind
      ∙ (ap (λ (x : Option ℕ). before ++ (given_byte b x ++ behind)) d
      ∙ ap (λ (xs : List ℕ). before ++ (given_byte b (last_drawn sets None es) ++ xs)) k) in
      ends ∙ (ap (λ (xs : List ℕ). xs ++ behind) is
      ∙ (ap (λ (xs : List ℕ). (xs ++ given_byte b drawn) ++ behind) same
      ∙ (all ∙ ap (λ (xs : List ℕ). before ++ xs) (sym (append-nil (given_for (pending past) sets b))))));
}

-- how many bytes are given

pub gives-few : (old new : CharsetFilter) (bytes : List ℕ) (k : ℕ) (before after past : List ℕ)
    → Gives old bytes k new before after → HasRead old past
    → length after ≤ length before + (224 + 8 * k)
gives-few old new bytes k before after past g h =
    let given = given_after past (take k bytes) in
    omega (
      arith,
      ap length (g.given past h),
      length-append before given,
      given-len (pending past) (sets_of past) (take k bytes),
      length-take k bytes,
      g.within,
    )

-- bytes after bytes

pub gives-on : (old mid new : CharsetFilter) (bytes : List ℕ) (k j : ℕ) (b0 b1 b2 : List ℕ)
    → Gives old bytes k mid b0 b1
    → Gives mid (take (length bytes - k) (drop k bytes)) j new b1 b2 → Gives old bytes (k + j) new b0 b2
gives-on old mid new bytes k j b0 b1 b2 g h =
    let len : length (drop k bytes) ≡ length bytes - k = length-drop k bytes in
    let rest : take (length bytes - k) (drop k bytes) ≡ drop k bytes =
    ap (λ (m : ℕ). take m (drop k bytes)) (sym len) ∙ take-length (drop k bytes) in
    let more : Gives mid (drop k bytes) j new b1 b2 = subst (λ (xs : List ℕ). Gives mid xs j new b1 b2) rest h in
    let parts : take (k + j) bytes ≡ take k bytes ++ take j (drop k bytes) = take-add k j bytes in
    record {
      within = omega (arith, g.within, more.within, len);
      reads = λ past r. rw parts (subst (HasRead new) (append_assoc past (take k bytes) (take j (drop k bytes)))
          (more.reads (past ++ take k bytes) (g.reads past r)));
      given = λ past r. rw parts (more.given (past ++ take k bytes) (g.reads past r)
          ∙ (ap (λ (xs : List ℕ). xs ++ given_after (past ++ take k bytes) (take j (drop k bytes))) (g.given past r)
          ∙ (append_assoc b0 _ _
          ∙ ap (λ (xs : List ℕ). b0 ++ xs) (sym (given-past past (take k bytes) (take j (drop k bytes)))))));
    }
