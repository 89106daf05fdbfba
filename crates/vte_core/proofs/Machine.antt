-- The events of bytes, byte by byte.
use Rattle.std.proofs.Common.{◌≡◌, ℕ, Bool, true, false, not, ◌&&◌, ◌||◌, List, [], ◌∷◌, ◌++◌, map, length, ◌==◌}
use Rattle.std.proofs.Common.{if◌then◌else◌, cond, refl, sym, ◌∙◌, ap, inl, inr, append_assoc, append-nil}
use Rattle.std.specs.List.{filter}
use Rattle.vte_core.specs.Event.{Event, Execute, Put}
use Rattle.vte_core.specs.Bytes.{is_esc, is_abort, is_control, is_intermediate, is_header, ends_header, ends_escape}
use Rattle.vte_core.specs.Bytes.{ends_osc, ends_device, is_put}
use Rattle.vte_core.specs.Text.{text}
use Rattle.vte_core.specs.Header.{is_well_formed}
use Rattle.vte_core.specs.Shapes.{before, from, executed, swallowed, device_end, device, hook_end, csi_end, osc_end}
use Rattle.vte_core.specs.Shapes.{introduced, escape_end, escape, cut_at_esc, segments, events}
use Rattle.vte_core.proofs.Characters.{bool_cases, if_holds, both_ifs_agree, either_way, text-byte, text-end}
use Rattle.vte_core.proofs.Characters.{IsUnfinished-rest}
use Rattle.vte_core.specs.Pending.{Pending, InText, InEscape, InCsi, InOsc, InHook, InDevice, InSwallowed, kept}
use Rattle.vte_core.specs.Pending.{reported, closed, final_reported, final_rest, byte_reported, byte_rest}
use Rattle.vte_core.specs.Pending.{events_of_byte, after_byte, events_from, after_bytes, pending, IsSound}

-- the rest of the definition, read from what is pending
abbrev pub go_on : ℕ → Pending → Bool → List ℕ → List Event
go_on n (InText u) cut s = text cut (u ++ s)
go_on n (InEscape is) cut s = executed (before ends_escape s)
    ++ escape_end n cut (is ++ filter is_intermediate (before ends_escape s)) (from ends_escape s)
go_on n (InCsi h) cut s = executed (before ends_header s)
    ++ csi_end cut (h ++ filter is_header (before ends_header s)) (from ends_header s)
go_on n (InOsc d) cut s = osc_end n cut (d ++ filter (λ b. not (is_control b)) (before ends_osc s)) (from ends_osc s)
go_on n (InHook h) cut s = hook_end cut (h ++ filter is_header (before ends_header s)) (from ends_header s)
go_on n InDevice cut s = device cut s
go_on n InSwallowed cut s = swallowed cut s

filter-reported : (r : ℕ → Bool) (f : ℕ → Event) (b : ℕ) (s : List ℕ)
    → map f (filter r (b ∷ s)) ≡ reported r f b ++ map f (filter r s)
filter-reported r f b s =
    elim (r b) as (λ v. map f (cond v (b ∷ filter r s) (filter r s)) ≡ cond v (f b ∷ []) []
    ++ map f (filter r s)) [ true ↦ refl | false ↦ refl ]

pub filter-kept : (keep : ℕ → Bool) (h : List ℕ) (b : ℕ) (s : List ℕ)
    → h ++ filter keep (b ∷ s) ≡ (h ++ kept keep b) ++ filter keep s
filter-kept keep h b s =
    elim (keep b) as (λ v. h ++ cond v (b ∷ filter keep s) (filter keep s) ≡ (h ++ cond v (b ∷ []) []) ++ filter keep s)
    [ true ↦ sym (append_assoc h (b ∷ []) (filter keep s)) | false ↦ ap (λ k. k ++ filter keep s) (sym (append-nil h)) ]

-- a byte that doesn't end the shape
skip-reported : (p r keep : ℕ → Bool) (f : ℕ → Event) (fin : List ℕ → List ℕ
    → List Event) (h : List ℕ) (b : ℕ) (s : List ℕ) → p b ≡ false
    → map f (filter r (before p (b ∷ s))) ++ fin (h ++ filter keep (before p (b ∷ s))) (from p (b ∷ s))
    ≡ reported r f b ++ (map f (filter r (before p s))
    ++ fin ((h ++ kept keep b) ++ filter keep (before p s)) (from p s))
skip-reported p r keep f fin h b s e =
    rw (e, filter-reported r f b (before p s), filter-kept keep h b (before p s)) (append_assoc (reported r f b) _ _)

skip-kept : (p keep : ℕ → Bool) (fin : List ℕ → List ℕ → List Event) (h : List ℕ) (b : ℕ) (s : List ℕ) → p b ≡ false
    → fin (h ++ filter keep (before p (b ∷ s))) (from p (b ∷ s))
    ≡ fin ((h ++ kept keep b) ++ filter keep (before p s)) (from p s)
skip-kept p keep fin h b s e = rw (e, filter-kept keep h b (before p s)) refl

-- the byte that ends it
stop-reported : (p r keep : ℕ → Bool) (f : ℕ → Event) (fin : List ℕ → List ℕ
    → List Event) (h : List ℕ) (b : ℕ) (s : List ℕ) → p b ≡ true
    → map f (filter r (before p (b ∷ s))) ++ fin (h ++ filter keep (before p (b ∷ s))) (from p (b ∷ s)) ≡ fin h (b ∷ s)
stop-reported p r keep f fin h b s e = rw (e, append-nil h) refl

stop-kept : (p keep : ℕ → Bool) (fin : List ℕ → List ℕ → List Event) (h : List ℕ) (b : ℕ) (s : List ℕ) → p b ≡ true
    → fin (h ++ filter keep (before p (b ∷ s))) (from p (b ∷ s)) ≡ fin h (b ∷ s)
stop-kept p keep fin h b s e = rw (e, append-nil h) refl

-- the local equations of a byte that isn't ESC

csi-byte : (n : ℕ) (h : List ℕ) (cut : Bool) (b : ℕ) (s : List ℕ)
    → go_on n (InCsi h) cut (b ∷ s) ≡ byte_reported n (InCsi h) b ++ go_on n (byte_rest (InCsi h) b) cut s
csi-byte n h cut b s =
    elim (bool_cases (ends_header b)) [
      | inl e ↦ stop-reported ends_header is_control is_header Execute (csi_end cut) h b s e ∙ rw e (
          elim (bool_cases (is_abort b)) [
            | inl a ↦ rw a refl
            | inr a ↦ rw a (elim (bool_cases (is_well_formed h)) [ inl w ↦ rw w refl | inr w ↦ rw w refl ])
          ])
      | inr e ↦ skip-reported ends_header is_control is_header Execute (csi_end cut) h b s e ∙ rw e refl
    ]

introduced-byte : (n : ℕ) (cut : Bool) (is : List ℕ) (b : ℕ) (s : List ℕ)
    → introduced n cut is b s ≡ final_reported is b ++ go_on n (final_rest is b) cut s
introduced-byte n cut is b s =
    let on = λ (es : List Event) (q : Pending). es ++ go_on n q cut s in
    both_ifs_agree on (length is == 0 && b == 0x5B) refl (both_ifs_agree on (length is == 0 && b == 0x5D) refl
    (both_ifs_agree on (length is == 0 && b == 0x50) refl
    (both_ifs_agree on (length is == 0 && (b == 0x58 || (b == 0x5E || b == 0x5F))) refl refl)))

escape-byte : (n : ℕ) (is : List ℕ) (cut : Bool) (b : ℕ) (s : List ℕ)
    → go_on n (InEscape is) cut (b ∷ s) ≡ byte_reported n (InEscape is) b ++ go_on n (byte_rest (InEscape is) b) cut s
escape-byte n is cut b s =
    elim (bool_cases (ends_escape b)) [
      | inl e ↦ stop-reported ends_escape is_control is_intermediate Execute (escape_end n cut) is b s e ∙ rw e (
          elim (bool_cases (is_abort b)) [ inl a ↦ rw a refl | inr a ↦ rw a (introduced-byte n cut is b s) ])
      | inr e ↦ skip-reported ends_escape is_control is_intermediate Execute (escape_end n cut) is b s e ∙ rw e refl
    ]

osc-byte : (n : ℕ) (d : List ℕ) (cut : Bool) (b : ℕ) (s : List ℕ)
    → go_on n (InOsc d) cut (b ∷ s) ≡ byte_reported n (InOsc d) b ++ go_on n (byte_rest (InOsc d) b) cut s
osc-byte n d cut b s =
    elim (bool_cases (ends_osc b)) [
      | inl e ↦ stop-kept ends_osc (λ c. not (is_control c)) (osc_end n cut) d b s e ∙ rw e (
          elim (bool_cases (is_abort b)) [ inl a ↦ rw a refl | inr a ↦ rw a refl ])
      | inr e ↦ skip-kept ends_osc (λ c. not (is_control c)) (osc_end n cut) d b s e ∙ rw e refl
    ]

hook-byte : (n : ℕ) (h : List ℕ) (cut : Bool) (b : ℕ) (s : List ℕ)
    → go_on n (InHook h) cut (b ∷ s) ≡ byte_reported n (InHook h) b ++ go_on n (byte_rest (InHook h) b) cut s
hook-byte n h cut b s =
    elim (bool_cases (ends_header b)) [
      | inl e ↦ stop-kept ends_header is_header (hook_end cut) h b s e ∙ rw e (
          elim (bool_cases (is_abort b)) [
            | inl a ↦ rw a refl
            | inr a ↦ rw a (elim (bool_cases (is_well_formed h)) [ inl w ↦ rw w refl | inr w ↦ rw w refl ])
          ])
      | inr e ↦ skip-kept ends_header is_header (hook_end cut) h b s e ∙ rw e refl
    ]

device-byte : (n : ℕ) (cut : Bool) (b : ℕ) (s : List ℕ)
    → go_on n InDevice cut (b ∷ s) ≡ byte_reported n InDevice b ++ go_on n (byte_rest InDevice b) cut s
device-byte n cut b s =
    elim (bool_cases (ends_device b)) [
      | inl e ↦ stop-reported ends_device is_put is_put Put (λ h r. device_end cut r) [] b s e ∙ rw e (
          elim (bool_cases (is_abort b)) [ inl a ↦ rw a refl | inr a ↦ rw a refl ])
      | inr e ↦ skip-reported ends_device is_put is_put Put (λ h r. device_end cut r) [] b s e ∙ rw e refl
    ]

swallowed-byte : (n : ℕ) (cut : Bool) (b : ℕ) (s : List ℕ)
    → go_on n InSwallowed cut (b ∷ s) ≡ byte_reported n InSwallowed b ++ go_on n (byte_rest InSwallowed b) cut s
swallowed-byte n cut b s = elim (bool_cases (is_abort b)) [ inl e ↦ rw e refl | inr e ↦ rw e refl ]

-- the cut before each ESC

segments-shift : (n : ℕ) (f : Bool → List ℕ → List Event) (b : ℕ) (s : List ℕ) (ts : List (List ℕ))
    → segments n f (b ∷ s) ts ≡ segments n (λ cut r. f cut (b ∷ r)) s ts
segments-shift n f b s [] = refl
segments-shift n f b s (t ∷ ts) = refl

segments-reported : (n : ℕ) (f g : Bool → List ℕ → List Event) (es : List Event) (s : List ℕ) (ts : List (List ℕ))
    → ((cut : Bool) → f cut s ≡ es ++ g cut s) → segments n f s ts ≡ es ++ segments n g s ts
segments-reported n f g es s [] same = same false
segments-reported n f g es s (t ∷ ts) same = ap (λ xs. xs ++ segments n (escape n) t ts) (same true)
    ∙ append_assoc es (g true s) (segments n (escape n) t ts)

-- the events from what is pending on, by the definition
abbrev pub going_on : ℕ → Pending → List ℕ → List Event
going_on n q bs = segments n (go_on n q) (cut_at_esc bs).0 (cut_at_esc bs).1

going_on-esc : (n : ℕ) (q : Pending) (b : ℕ) (bs : List ℕ) → is_esc b ≡ true
    → going_on n q (b ∷ bs) ≡ go_on n q true [] ++ going_on n (InEscape []) bs
going_on-esc n q b bs e = rw e refl

going_on-byte : (n : ℕ) (q r : Pending) (es : List Event) (b : ℕ) (bs : List ℕ) → is_esc b ≡ false
    → ((cut : Bool) (s : List ℕ) → go_on n q cut (b ∷ s) ≡ es ++ go_on n r cut s)
    → going_on n q (b ∷ bs) ≡ es ++ going_on n r bs
going_on-byte n q r es b bs e same =
    rw e (segments-shift n (go_on n q) b (cut_at_esc bs).0 (cut_at_esc bs).1
    ∙ segments-reported n (λ cut s. go_on n q cut (b ∷ s)) (go_on n r) es (cut_at_esc bs).0 (cut_at_esc bs).1
    (λ cut. same cut (cut_at_esc bs).0))

-- ESC, and the end
go_on-cut : (n : ℕ) (q : Pending) (cut : Bool) → IsSound q → go_on n q cut [] ≡ (if cut then closed n q else [])
go_on-cut n (InText u) cut h = rw append-nil (text-end n cut u h)
go_on-cut n (InEscape is) cut h = either_way cut []
go_on-cut n (InCsi h) cut k = either_way cut []
go_on-cut n (InOsc d) cut h = rw append-nil refl
go_on-cut n (InHook h) cut k = either_way cut []
go_on-cut n InDevice cut h = refl
go_on-cut n InSwallowed cut h = either_way cut []

-- a byte other than ESC
go_on-byte : (n : ℕ) (q : Pending) (cut : Bool) (b : ℕ) (s : List ℕ) → IsSound q
    → go_on n q cut (b ∷ s) ≡ byte_reported n q b ++ go_on n (byte_rest q b) cut s
go_on-byte n (InText u) cut b s h = text-byte cut u b s h
go_on-byte n (InEscape is) cut b s h = escape-byte n is cut b s
go_on-byte n (InCsi h) cut b s k = csi-byte n h cut b s
go_on-byte n (InOsc d) cut b s h = osc-byte n d cut b s
go_on-byte n (InHook h) cut b s k = hook-byte n h cut b s
go_on-byte n InDevice cut b s h = device-byte n cut b s
go_on-byte n InSwallowed cut b s h = swallowed-byte n cut b s

-- what is pending stays sound
sound_if : (v : Bool) (q r : Pending) → IsSound q → IsSound r → IsSound (if v then q else r)
sound_if = if_holds IsSound

sound_final : (is : List ℕ) (b : ℕ) → IsSound (final_rest is b)
sound_final is b =
    sound_if (length is == 0 && b == 0x5B) _ _ tt (sound_if (length is == 0 && b == 0x5D) _ _ tt
    (sound_if (length is == 0 && b == 0x50) _ _ tt
    (sound_if (length is == 0 && (b == 0x58 || (b == 0x5E || b == 0x5F))) _ _ tt tt)))

pub IsSound-byte : (q : Pending) (b : ℕ) → IsSound q → IsSound (after_byte q b)
IsSound-byte (InText u) b h = sound_if (is_esc b) _ _ tt (IsUnfinished-rest u b h)
IsSound-byte (InEscape is) b h = sound_if (is_esc b) _ _ tt
    (sound_if (ends_escape b) _ _ (sound_if (is_abort b) _ _ tt (sound_final is b)) tt)
IsSound-byte (InCsi h) b k = sound_if (is_esc b) _ _ tt (sound_if (ends_header b) _ _ tt tt)
IsSound-byte (InOsc d) b h = sound_if (is_esc b) _ _ tt (sound_if (ends_osc b) _ _ tt tt)
IsSound-byte (InHook h) b k = sound_if (is_esc b) _ _ tt
    (sound_if (ends_header b) _ _ (sound_if (is_abort b) _ _ tt (sound_if (is_well_formed h) _ _ tt tt)) tt)
IsSound-byte InDevice b h = sound_if (is_esc b) _ _ tt (sound_if (ends_device b) _ _ tt tt)
IsSound-byte InSwallowed b h = sound_if (is_esc b) _ _ tt (sound_if (is_abort b) _ _ tt tt)

-- the definition, byte by byte from what is pending
pub going_on-reported : (n : ℕ) (q : Pending) (bs : List ℕ) → IsSound q → going_on n q bs ≡ events_from n q bs
going_on-reported n q [] h = go_on-cut n q false h
going_on-reported n q (b ∷ bs) h =
    let more = going_on-reported n (after_byte q b) bs (IsSound-byte q b h) in
    elim (bool_cases (is_esc b)) [
      | inl e ↦ going_on-esc n q b bs e ∙ (ap (λ xs. xs ++ going_on n (InEscape []) bs) (go_on-cut n q true h)
          ∙ rw e (ap (λ xs. closed n q ++ xs) (rw e at more)))
      | inr e ↦ going_on-byte n q (byte_rest q b) (byte_reported n q b) b bs e (λ cut s. go_on-byte n q cut b s h)
          ∙ rw e (ap (λ xs. byte_reported n q b ++ xs) (rw e at more))
    ]

-- the events of the bytes are those given byte by byte
pub events-reported : (n : ℕ) (bs : List ℕ) → events n bs ≡ events_from n (InText []) bs
events-reported n bs = going_on-reported n (InText []) bs tt

pub events_from-append : (n : ℕ) (q : Pending) (xs ys : List ℕ)
    → events_from n q (xs ++ ys) ≡ events_from n q xs ++ events_from n (after_bytes q xs) ys
events_from-append n q [] ys = refl
events_from-append n q (x ∷ xs) ys =
    ap (λ es. events_of_byte n q x ++ es) (events_from-append n (after_byte q x) xs ys)
    ∙ sym (append_assoc (events_of_byte n q x) (events_from n (after_byte q x) xs)
    (events_from n (after_bytes (after_byte q x) xs) ys))

pub after_bytes-append : (q : Pending) (xs ys : List ℕ) → after_bytes q (xs ++ ys) ≡ after_bytes (after_bytes q xs) ys
after_bytes-append q [] ys = refl
after_bytes-append q (x ∷ xs) ys = after_bytes-append (after_byte q x) xs ys

-- the events of a past and what follows it are those of the past, and then those that follow from what is pending
pub events-past : (n : ℕ) (past bs : List ℕ) → events n (past ++ bs) ≡ events n past ++ events_from n (pending past) bs
events-past n past bs =
    events-reported n (past ++ bs) ∙ (events_from-append n (InText []) past bs
    ∙ ap (λ es. es ++ events_from n (pending past) bs) (sym (events-reported n past)))
