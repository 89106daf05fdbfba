-- Reads of a whole input.
use Rattle.std.proofs.Common.{◌≡◌, ◌≢◌, ℕ, suc, ◌<◌, ◌≤◌, List, [], ◌++◌, length, Option, Ok, Err, Result}
use Rattle.std.proofs.Common.{None, Some, IfErr, IfSome, IsErrAnd, refl, ap, ◌∙◌, subst, sym, append_assoc, append-nil}
use Rattle.std.proofs.KnownBytes.{Consumes-nil, Consumes-trans}
use Rattle.std.specs.Io.KnownBytes.{Consumes, IsAtEnd, Keeps}
use Rattle.std.specs.IoError.{error_kind}
use Rattle.std.specs.declared.io.Error.{Error}
use Rattle.std.specs.declared.io.ErrorKind.TheVariants.{Interrupted}
use Rattle.byte_streams.specs.Source.{IsReadBy}
use Rattle.command_line.specs.declared.input.InputError.{InputError}
use Rattle.command_line.specs.declared.input.InputError.TheVariants.{Memory, Read, TooManyReads}
use Rattle.command_line.specs.Input.{Drains, ended, failed, refused, stopped, again, more}

-- what holds of the only possible error
pub if_error : {A E : Type 0} (r : Result A E) (m : E) (P : E → Type 0) → IsErrAnd r (λ e. e ≡ m) → P m → IfErr r P
if_error (Ok a) m P is holds = tt
if_error (Err e) m P is holds = subst P (sym is) holds

-- a source that is at its end has given all that it had
all_read : (a b : Option (List ℕ)) (bytes : List ℕ) → Consumes a b bytes → IsAtEnd b → IfSome a (λ all. bytes ≡ all)
all_read None b bytes h end = tt
all_read (Some x) None bytes h end = absurd h
all_read (Some x) (Some y) bytes h end = sym (h ∙ ap (λ ys. bytes ++ ys) end ∙ append-nil bytes)

-- some reads were made, and the reads after them complete the whole
pub record GoesOn {S : Type 0} (step : S → ℕ → Result (List ℕ) Error → S → Type 0) (room : ℕ) (old : S) (all : ℕ)
    (now : S) (rest : ℕ) (got : List ℕ) : Type 0 where
  pub further : (bytes : List ℕ) (answer : Result (Unit {0}) InputError) (t : S) → Drains step room now rest bytes
      answer t
      → Drains step room old all (got ++ bytes) answer t

pub begun : {S : Type 0} (step : S → ℕ → Result (List ℕ) Error → S → Type 0) (room : ℕ) (old : S) (all : ℕ)
    → GoesOn step room old all old all []
begun step room old all = record { further = λ bytes answer t d. d }

module _ {S : Type 0} {step : S → ℕ → Result (List ℕ) Error → S → Type 0} {room : ℕ} {old : S} {all : ℕ} {now : S}
    {rest : ℕ} {got : List ℕ} (g : GoesOn step room old all now rest got) (left : ℕ) (one : rest ≡ suc left) (new : S)
  where
    -- one more read, which was interrupted
    pub once_more : (e : Error) → step now room (Err e) new → error_kind e ≡ Interrupted
        → GoesOn step room old all new left got
    once_more e read is = record {
      further = λ bytes answer t d. g.further bytes answer t
          (subst (λ n. Drains step room now n bytes answer t) (sym one) (again new e read is d));
    }

    -- one more read, which gave some bytes
    pub some_more : (some : List ℕ) → some ≢ [] → length some ≤ room → step now room (Ok some) new
        → GoesOn step room old all new left (got ++ some)
    some_more some none fits read = record {
      further = λ bytes answer t d.
          let whole = g.further (some ++ bytes) answer t
          (subst (λ n. Drains step room now n (some ++ bytes) answer t) (sym one) (more new some none fits read d)) in
          subst (λ xs. Drains step room old all xs answer t) (sym (append_assoc got some bytes)) whole;
    }

    -- the input has ended
    pub at_end : step now room (Ok []) new → Drains step room old all got (Ok tt) new
    at_end read =
        let last = g.further [] (Ok tt) new
        (subst (λ n. Drains step room now n [] (Ok tt) new) (sym one) (ended read)) in
        subst (λ xs. Drains step room old all xs (Ok tt) new) (append-nil got) last

    -- a read failed
    pub at_fault : (e : Error) → step now room (Err e) new → error_kind e ≢ Interrupted
        → Drains step room old all (got ++ []) (Err (Read e)) new
    at_fault e read is = g.further [] (Err (Read e)) new
        (subst (λ n. Drains step room now n [] (Err (Read e)) new) (sym one) (failed read is))

    -- an allocation for the bytes of a read failed
    pub at_refusal : (some : List ℕ) → some ≢ [] → length some ≤ room → step now room (Ok some) new
        → Drains step room old all (got ++ some) (Err Memory) new
    at_refusal some none fits read = g.further some (Err Memory) new
        (subst (λ n. Drains step room now n some (Err Memory) new) (sym one) (refused none fits read))

pub at_most : {S : Type 0} {step : S → ℕ → Result (List ℕ) Error → S → Type 0} {room : ℕ} {old : S} {all : ℕ} {now : S}
    {rest : ℕ} {got : List ℕ} → GoesOn step room old all now rest got → rest ≡ 0
    → Drains step room old all (got ++ []) (Err TooManyReads) now
at_most {S} {step} {room} {old} {all} {now} {rest} {got} g none = g.further [] (Err TooManyReads) now
    (subst (λ n. Drains step room now n [] (Err TooManyReads) now) (sym none) stopped)

-- the known bytes stay the same, and then some of them are read
kept_read : (a b c : Option (List ℕ)) (bytes : List ℕ) → Keeps a b → Consumes b c bytes → Consumes a c bytes
kept_read None b c bytes h k = tt
kept_read (Some x) None c bytes h k = absurd h
kept_read (Some x) (Some y) None bytes h k = absurd k
kept_read (Some x) (Some y) (Some z) bytes h k = sym h ∙ k

module _ {S : Type 0} {step : S → ℕ → Result (List ℕ) Error → S → Type 0} (left : S → Option (List ℕ))
    (tells : (s : S) (room : ℕ) (answer : Result (List ℕ) Error) (t : S) → step s room answer t
    → IsReadBy left s room answer t) {room : ℕ} where
  -- the bytes that were read are those that the source had
  pub taken : (s t : S) (n : ℕ) (bytes : List ℕ) (answer : Result (Unit {0}) InputError)
      → Drains step room s n bytes answer t → Consumes (left s) (left t) bytes
  taken s t n bytes answer (ended read) = (tells s room (Ok []) t read).0
  taken s t n bytes answer (failed {e = e} read is) =
      kept_read (left s) (left t) (left t) [] (tells s room (Err e) t read) (Consumes-nil (left t))
  taken s t n bytes answer (refused none fits read) = (tells s room (Ok bytes) t read).0
  taken s t n bytes answer stopped = Consumes-nil (left s)
  taken s t n bytes answer (again m e read is rest) =
      kept_read (left s) (left m) (left t) bytes (tells s room (Err e) m read) (taken m t _ bytes answer rest)
  taken s t n bytes answer (more m some none fits read rest) =
      Consumes-trans (left s) (left m) (left t) some _ (tells s room (Ok some) m read).0 (taken m t _ _ answer rest)

  -- if the last read gave nothing, the source is at its end
  pub nothing_left : (s t : S) (n : ℕ) (bytes : List ℕ) (answer : Result (Unit {0}) InputError)
      → Drains step room s n bytes answer t → answer ≡ Ok tt → 0 < room → IsAtEnd (left t)
  nothing_left s t n bytes answer (ended read) is wide = (tells s room (Ok []) t read).1 refl wide
  nothing_left s t n bytes answer (again m e read broke rest) is wide = nothing_left m t _ bytes answer rest is wide
  nothing_left s t n bytes answer (more m some none fits read rest) is wide = nothing_left m t _ _ answer rest is wide
  nothing_left s t n bytes answer _ is wide = absurd (cc)

  -- all that the source had
  pub whole : (s t : S) (n : ℕ) (bytes : List ℕ) → Drains step room s n bytes (Ok tt) t → 0 < room
      → IfSome (left s) (λ all. bytes ≡ all)
  whole s t n bytes drains wide =
      all_read (left s) (left t) bytes (taken s t n bytes (Ok tt) drains) (nothing_left s t n bytes (Ok tt) drains refl
      wide)
