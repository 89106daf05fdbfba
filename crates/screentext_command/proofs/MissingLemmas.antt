-- Why no text of a recording is printed.
use Rattle.std.proofs.Common.{◌≡◌, ◌⊎◌, ℕ, List, Option, Some, Ok, Err, Result, IfErr, inl, inr, true, false}
use Rattle.std.proofs.Common.{refl, subst, sym}
use Rattle.player_page.specs.declared.error.PlayerError.{PlayerError}
use Rattle.player_page.specs.declared.error.PlayerError.TheVariants as player
use Rattle.recorded_screen.specs.declared.error.FilmError.{FilmError}
use Rattle.recorded_screen.specs.declared.error.FilmError.TheVariants as film
use Rattle.recordings.specs.Recorded.{said}
use Rattle.recordings.specs.declared.error.RecordingError.{RecordingError}
use Rattle.recordings.specs.declared.error.RecordingError.TheVariants as recording
use Rattle.recordings.specs.declared.recording.Reading.{Reading}
use Rattle.recordings.specs.declared.recording.Recording.{Recording}
use Rattle.screentext_command.specs.Asked.{Origin, Wish}
use Rattle.screentext_command.specs.Faults.{film_fault, player_fault, recording_fault}
use Rattle.screentext_command.specs.Limits.{are_within}
use Rattle.screentext_command.specs.Missing.{HasNoText, IsMissing, IsNoMoment, IsUnfit, IsUnreadAs, cut, large}
use Rattle.screentext_command.specs.Missing.{no_file, no_moment, no_text, refused, unfit, unread}
use Rattle.screentext_command.specs.Moments.{AreMoments}
use Rattle.screentext_command.specs.Reads.{IsPart, IsRead, IsShown, IsTiming, flaw_of, seems_asciicast}
use Rattle.screentext_command.specs.declared.error.TextError.{TextError}
use Rattle.screentext_command.specs.declared.error.TextError.TheVariants as error
use Rattle.screentext_command.specs.declared.source.Moments.{Moments}
use Rattle.screentext_command.specs.declared.words.Form.{Form}
use Rattle.screentext_command.specs.declared.words.Form.TheVariants as form

module _ (holds : List ℕ → List ℕ → Type 0) (lacks : List ℕ → Type 0) (o : Origin) (w : Wish) (bytes : List ℕ) where
  -- the timing file can't be read
  pub file_missing : (path : List ℕ) (e : TextError) → o.timing ≡ Some path
      → (e ≡ error.Memory) ⊎ ((e ≡ error.File) × lacks path) → IsMissing holds lacks o w bytes e
  file_missing path e at (inl memory) = subst (IsMissing holds lacks o w bytes) (sym memory) refused
  file_missing path e at (inr file) = subst (IsMissing holds lacks o w bytes) (sym file.0) (no_file path at file.1)

  -- nothing is read of the bytes
  pub unread_missing : (timing lines : Option (List ℕ)) (e : TextError) → IsTiming holds o.timing timing
      → lines ≡ timing
      → (e ≡ error.Memory) ⊎ ((f : RecordingError) × (e ≡ error.Recording f) × IsUnreadAs o.kind lines bytes f)
      → IsMissing holds lacks o w bytes e
  unread_missing timing lines e given same (inl memory) = subst (IsMissing holds lacks o w bytes) (sym memory) refused
  unread_missing timing lines e given same (inr fault) =
      subst (IsMissing holds lacks o w bytes) (sym fault.1) (unread timing fault.0 given
      (subst (λ (t : Option (List ℕ)). IsUnreadAs o.kind t bytes fault.0) same fault.2))

  -- the recording isn't whole
  pub cut_missing : (r : Reading) (e : RecordingError) → IsRead holds o bytes r → o.strict ≡ true
      → flaw_of (seems_asciicast o bytes) r.recording.kind r.fault ≡ Some e → IsMissing holds lacks o w bytes (recording_fault e)
  cut_missing r recording.Memory read strict fault = refused
  cut_missing r recording.Header read strict fault = cut r recording.Header read strict fault
  cut_missing r (recording.Line n) read strict fault = cut r (recording.Line n) read strict fault
  cut_missing r (recording.Byte n) read strict fault = cut r (recording.Byte n) read strict fault
  cut_missing r (recording.Step n) read strict fault = cut r (recording.Step n) read strict fault
  cut_missing r recording.NoTiming read strict fault = cut r recording.NoTiming read strict fault
  cut_missing r (recording.Packed p) read strict fault = cut r (recording.Packed p) read strict fault

  -- a size is too large
  pub large_missing : (r : Recording) (remark : Option TextError) (e : TextError) → IsPart holds o bytes r remark
      → (e ≡ error.Cells o.most_cells) × (are_within o.most_cells r ≡ false) → IsMissing holds lacks o w bytes e
  large_missing r remark e part fault =
      subst (IsMissing holds lacks o w bytes) (sym fault.0) (large r remark part fault.1)

module _ (o : Origin) (w : Wish) (r : Recording) where
  -- an argument means no moment of it
  pub no_moment_text : (e : TextError) → IsNoMoment (said r.events.items) o.moment e
      ⊎ (IsNoMoment (said r.events.items) o.since e
      ⊎ (IsNoMoment (said r.events.items) o.from e ⊎ IsNoMoment (said r.events.items) o.poster e))
      → (e ≡ error.Memory) ⊎ HasNoText o w r e
  no_moment_text e (inl (inl memory)) = inl memory
  no_moment_text e (inl (inr fault)) = inr (subst (HasNoText o w r) (sym fault.0) (no_moment (inl fault.1)))
  no_moment_text e (inr (inl (inl memory))) = inl memory
  no_moment_text e (inr (inl (inr fault))) =
      inr (subst (HasNoText o w r) (sym fault.0) (no_moment (inr (inl fault.1))))
  no_moment_text e (inr (inr (inl (inl memory)))) = inl memory
  no_moment_text e (inr (inr (inl (inr fault)))) =
      inr (subst (HasNoText o w r) (sym fault.0) (no_moment (inr (inr (inl fault.1)))))
  no_moment_text e (inr (inr (inr (inl memory)))) = inl memory
  no_moment_text e (inr (inr (inr (inr fault)))) =
      inr (subst (HasNoText o w r) (sym fault.0) (no_moment (inr (inr (inr fault.1)))))

  -- the film or the page would be too long, or the film would begin after its end
  pub unfit_text : (e : TextError) (m : Moments) → AreMoments (said r.events.items) o m → o.list ≡ false
      → (e ≡ error.Memory) ⊎ IsUnfit w.form r m e → (e ≡ error.Memory) ⊎ HasNoText o w r e
  unfit_text e m meant shown (inl memory) = inl memory
  unfit_text e m meant shown (inr fault) = inr (unfit e m meant shown fault)

-- there is no text of the recording that is shown
pub text_missing : (holds : List ℕ → List ℕ → Type 0) (lacks : List ℕ → Type 0) (o : Origin) (w : Wish)
    (bytes : List ℕ) (r : Recording) (remark : Option TextError) (e : TextError) → IsShown holds o bytes r remark
    → (e ≡ error.Memory) ⊎ HasNoText o w r e → IsMissing holds lacks o w bytes e
text_missing holds lacks o w bytes r remark e shown (inl memory) =
    subst (IsMissing holds lacks o w bytes) (sym memory) refused
text_missing holds lacks o w bytes r remark e shown (inr why) = no_text e r remark shown why

pub err_goes : {X E : Type 0} {P T : E → Type 0} (r : Result X E) → IfErr r P → ((e : E) → P e → T e) → IfErr r T
err_goes (Ok x) p f = tt
err_goes (Err e) p f = f e p

-- ---- films and pages

pub film_faulted : (r : Recording) (m : Moments) (e : FilmError) → (film_fault e ≡ error.Memory)
    ⊎ IsUnfit form.Film r m (film_fault e)
film_faulted r m film.Memory = inl refl
film_faulted r m film.TooLong = inr (inl refl)

pub player_faulted : (e : PlayerError) → (player_fault e ≡ error.Memory) ⊎ (player_fault e ≡ error.Player)
player_faulted player.Memory = inl refl
player_faulted player.TooLong = inr refl

-- the fault of a form, by what it is
pub unfit_form : (f g : Form) (r : Recording) (m : Moments) (e : TextError) → f ≡ g
    → (e ≡ error.Memory) ⊎ IsUnfit g r m e → (e ≡ error.Memory) ⊎ IsUnfit f r m e
unfit_form f g r m e is (inl memory) = inl memory
unfit_form f g r m e is (inr fault) = inr (subst (λ (x : Form). IsUnfit x r m e) (sym is) fault)
