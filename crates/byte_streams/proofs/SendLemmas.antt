-- Texts that are pumped one after another.
use Rattle.std.proofs.Common.{◌≡◌, ◌≢◌, ◌∙◌, ◌∷◌, refl, ℕ, ◌<◌, List, [], ◌++◌, take, drop, length, Option, Ok, Err}
use Rattle.std.proofs.Common.{Result, sym, ap, append_assoc, arith, length-drop}
use Rattle.std.proofs.Common.{subst, append-nil, take-append-drop}
use Rattle.std.proofs.Math.Seq.{take-length}
use Rattle.std.specs.List.{concat}
use Rattle.std.specs.Io.KnownBytes.{Appends}
use Rattle.std.specs.declared.io.Error.{Error}
use Rattle.byte_streams.specs.Pump.{Pumps, Writes, all, nothing, fault, some}
use Rattle.byte_streams.proofs.PumpLaws.{takes-all, appends-prefix}
use Rattle.byte_streams.specs.Output.{TakesPrefix, TakesPart}
use Rattle.byte_streams.specs.Sent as sent
use Rattle.byte_streams.specs.Sent.{Sends, SendsText, done, part, broken}
use Rattle.byte_streams.proofs.AppendLemmas.{Appends-more, Appends-none, TakesPart-longer, TakesPart-then}

some-length : (xs : List ℕ) → xs ≢ [] → 0 < length xs
some-length [] ne = absurd (ne refl)
some-length (x ∷ xs) ne = omega arith

abbrev pub bad : Error → Result (Unit {0}) Error
bad e = Err e

abbrev pub well : Result (Unit {0}) Error
well = Ok tt

module _ (W : Type 0) (takes : W → List ℕ → Result ℕ Error → W → Type 0) where
  -- more texts are pumped after those that were pumped whole
  pub sends-more : (w m v : W) (texts more : List (List ℕ)) (first answer : Result (Unit {0}) Error)
      → Sends takes w texts first m → first ≡ well → Sends takes m more answer v
      → Sends takes w (texts ++ more) answer v
  sends-more w m v texts more first answer sent.none is after = after
  sends-more w m v texts more first answer (sent.next {texts = others} k pumps rest) is after =
      sent.next k pumps (sends-more k m v others more first answer rest is after)
  sends-more w m v texts more first answer (sent.fault pumps) is after = absurd (cc)

  -- sending texts one after another is sending them joined
  sends-text : (w v : W) (texts : List (List ℕ)) (answer : Result (Unit {0}) Error) → Sends takes w texts answer v
      → SendsText takes w (concat texts) answer v
  sends-text w v texts answer sent.none = done
  sends-text w v texts answer (sent.next {texts = others} m pumps rest) =
      part m pumps (sends-text m v others answer rest)
  sends-text w v texts answer (sent.fault pumps) = broken [] pumps

  -- a text is sent after one that was sent whole
  pub text-more : (w m v : W) (text more : List ℕ) (first answer : Result (Unit {0}) Error)
      → SendsText takes w text first m → first ≡ well → SendsText takes m more answer v
      → SendsText takes w (text ++ more) answer v
  text-more w m v text more first answer done is after = after
  text-more w m v text more first answer (part {text = one} {rest = others} k pumps rest) is after =
      subst (λ (xs : List ℕ). SendsText takes w xs answer v) (sym (append_assoc one others more))
      (part k pumps (text-more k m v others more first answer rest is after))
  text-more w m v text more first answer (broken others pumps) is after = absurd (cc)

  -- after a failed pump there may be more of the text
  pub text-broken : (w v : W) (text more : List ℕ) (answer : Result (Unit {0}) Error) (e : Error)
      → SendsText takes w text answer v → answer ≡ bad e → SendsText takes w (text ++ more) answer v
  text-broken w v text more answer e done is = absurd (cc)
  text-broken w v text more answer e (part {text = one} {rest = others} k pumps rest) is =
      subst (λ (xs : List ℕ). SendsText takes w xs answer v) (sym (append_assoc one others more))
      (part k pumps (text-broken k v others more answer e rest is))
  text-broken w v text more answer e (broken {text = one} {e = f} others pumps) is =
      subst (λ (xs : List ℕ). SendsText takes w xs (Err f) v) (sym (append_assoc one others more))
      (broken (others ++ more) pumps)

  -- one pump sends a text
  pub text-pumped : (w v : W) (text : List ℕ) (n : ℕ) → Pumps takes w text well n v → SendsText takes w text well v
  text-pumped w v text n pumps =
      subst (λ (xs : List ℕ). SendsText takes w xs well v) (append-nil text) (part v pumps done)

  pub text-failed : (w v : W) (text : List ℕ) (e : Error) (n : ℕ) → Pumps takes w text (bad e) n v
      → SendsText takes w text (bad e) v
  text-failed w v text e n pumps =
      subst (λ (xs : List ℕ). SendsText takes w xs (bad e) v) (append-nil text) (broken [] pumps)

  -- a pump that fails hasn't taken all bytes
  failed-part : (s : W) (owed : List ℕ) (answer : Result (Unit {0}) Error) (e : Error) (n : ℕ) (t : W)
      → Pumps takes s owed answer n t → answer ≡ bad e → n < length owed
  failed-part s owed answer e n t all is = absurd (cc)
  failed-part s owed answer e n t (nothing ne step kind) is = some-length owed ne
  failed-part s owed answer e n t (fault ne step) is = some-length owed ne
  failed-part s owed answer e n t (some m k j ne pos step rest) is =
      omega (arith, failed-part m (drop k owed) answer e j t rest is, length-drop k owed)

  module _ (contents : W → Option (List ℕ)) (tells : (s : W) (bytes : List ℕ) (answer : Result ℕ Error) (t : W)
      → takes s bytes answer t → Writes contents s bytes answer t) where
    pumps-reported : (s : W) (owed : List ℕ) (answer : Result (Unit {0}) Error) (n : ℕ) (t : W)
        → Pumps takes s owed answer n t → Pumps (Writes contents) s owed answer n t
    pumps-reported s owed answer n t all = all
    pumps-reported s owed answer n t (nothing ne step kind) = nothing ne (tells s owed (Ok 0) t step) kind
    pumps-reported s owed answer n t (fault {e = e} ne step) = fault ne (tells s owed (Err e) t step)
    pumps-reported s owed answer n t (some m k j ne pos step rest) =
        some m k j ne pos (tells s owed (Ok k) m step) (pumps-reported m (drop k owed) answer j t rest)

    pumped-prefix : (s : W) (owed : List ℕ) (answer : Result (Unit {0}) Error) (n : ℕ) (t : W)
        → Pumps takes s owed answer n t → Appends (contents s) (contents t) (take n owed)
    pumped-prefix s owed answer n t pumps =
        (appends-prefix W contents s t owed answer n (pumps-reported s owed answer n t pumps)).0

    pumped-whole : (s : W) (owed : List ℕ) (n : ℕ) (t : W) → Pumps takes s owed well n t
        → Appends (contents s) (contents t) owed
    pumped-whole s owed n t pumps =
        let none : drop n owed ≡ [] = takes-all W takes s t owed n pumps in
        let same : take n owed ≡ owed =
        sym (append-nil (take n owed)) ∙ ap (λ xs. take n owed ++ xs) (sym none) ∙ take-append-drop n owed in
        subst (Appends (contents s) (contents t)) same (pumped-prefix s owed well n t pumps)

    pub text-appends : (w v : W) (text : List ℕ) (answer : Result (Unit {0}) Error)
        → SendsText takes w text answer v → answer ≡ well → Appends (contents w) (contents v) text
    text-appends w v text answer done is = Appends-none (contents w)
    text-appends w v text answer (part {text = one} {rest = others} {n = n} m pumps rest) is =
        Appends-more (contents w) (contents m) (contents v) one others (pumped-whole w one n m pumps)
        (text-appends m v others answer rest is)
    text-appends w v text answer (broken others pumps) is = absurd (cc)

    pub text-part : (w v : W) (text : List ℕ) (answer : Result (Unit {0}) Error) (e : Error)
        → SendsText takes w text answer v → answer ≡ bad e → TakesPart (contents w) (contents v) text
    text-part w v text answer e done is = absurd (cc)
    text-part w v text answer e (part {text = one} {rest = others} {n = n} m pumps rest) is =
        TakesPart-then (contents w) (contents m) (contents v) one others (pumped-whole w one n m pumps)
        (text-part m v others answer e rest is)
    text-part w v text answer e (broken {text = one} {e = f} {n = n} others pumps) is =
        TakesPart-longer (contents w) (contents v) one others
        (n, failed-part w one (bad f) f n v pumps refl, pumped-prefix w one (bad f) n v pumps)

    pub text-prefix : (w v : W) (text : List ℕ) (answer : Result (Unit {0}) Error)
        → SendsText takes w text answer v → TakesPrefix (contents w) (contents v) text
    text-prefix w v text (Ok u) sends =
        (length text, rw (take-length text) (text-appends w v text (Ok u) sends refl))
    text-prefix w v text (Err e) sends = let part = text-part w v text (Err e) e sends refl in (part.0, part.2)

    pub sends-appends : (w v : W) (texts : List (List ℕ)) (answer : Result (Unit {0}) Error)
        → Sends takes w texts answer v → answer ≡ well → Appends (contents w) (contents v) (concat texts)
    sends-appends w v texts answer sends is =
        text-appends w v (concat texts) answer (sends-text w v texts answer sends) is

    pub sends-prefix : (w v : W) (texts : List (List ℕ)) (answer : Result (Unit {0}) Error)
        → Sends takes w texts answer v → TakesPrefix (contents w) (contents v) (concat texts)
    sends-prefix w v texts answer sends = text-prefix w v (concat texts) answer (sends-text w v texts answer sends)
