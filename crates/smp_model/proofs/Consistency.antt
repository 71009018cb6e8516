-- Requests, settling and a start lead from a consistent device to a consistent one.
use Rattle.std.proofs.Common.{◌≡◌, ◌≤◌, ◌+◌, ◌*◌, ◌==◌, ◌&&◌, ◌||◌, not, ◌⊎◌, inl, inr, ℕ, zero, suc, List, [], ◌∷◌, ◌++◌, length, Bool, true, false, Option, Some, None, refl, sym, ap, subst, ◌∙◌, arith, length-append, if◌then◌else◌, nat_lt}
use Rattle.std.specs.Prelude.{nat_le, is_none, IsSome, option_map}
use Rattle.std.specs.List.{list_all}
use Rattle.std.specs.Str.{is_utf8, bytes_eq}
use Rattle.std.proofs.lemmas.Bool.Decides.{nat_tests}
use Rattle.std.proofs.lemmas.Slice.Eq.{bytes_eq-Decides}
use Rattle.smp_model.specs.declared.device.AbstractDevice.{AbstractDevice}
use Rattle.smp_model.specs.declared.device.Side.{Side}
use Rattle.smp_model.specs.declared.device.Sizes.{Sizes}
use Rattle.smp_model.specs.declared.device.StoredFile.{StoredFile}
use Rattle.smp_model.specs.declared.device.Upload.{Upload}
use Rattle.smp_model.specs.declared.setting.Setting.{Setting}
use Rattle.smp_model.specs.declared.upload.Announcement.{Announcement}
use Rattle.smp_model.specs.Consistent.{is_file, are_files, FitsUpload, UploadFits, IsConsistentSide, IsConsistent, HasTexts}
use Rattle.smp_model.specs.Does.{does}
use Rattle.smp_model.specs.Due.{GoesOnAt, IsFileWrite, IsSideStepDue, IsStepDue}
use Rattle.smp_model.specs.FileGroup.{if_file, is_no_free_file, begins_file, continues_file, writes_file}
use Rattle.smp_model.specs.Files.{is_file_name, longest_file, file_of, stored_file, lengthened}
use Rattle.smp_model.specs.Laws.{IsAboutImages}
use Rattle.smp_model.specs.Meant as meant
use Rattle.smp_model.specs.Meant.{Meant}
use Rattle.smp_model.specs.Named.{is_ascending, named}
use Rattle.smp_model.specs.Response.{Response}
use Rattle.smp_model.specs.Settings.{setting, value_of, written_setting, deleted_setting, is_setting, is_setting_name, is_setting_value, is_within_limits, is_full, stored_setting, stored_form}
use Rattle.smp_model.specs.SettingsGroup.{writes_setting, deletes_value, deletes_setting}
use Rattle.smp_model.specs.Sides.{SideStep, Choose, Append, Drop, MarkPending, Confirm, appended, side_apply}
use Rattle.smp_model.specs.Steps.{write_setting, delete_setting, load_settings, begin_file, append_file, aim_at, Step, OnSide, Save, Run, Part, with_side, side_at, apply, applied, settle, settle_steps, settle_steps_of, start}
use Rattle.smp_model.proofs.Cases.{by_if, either_way}
use Rattle.smp_model.proofs.DueSteps.{AllDue, does_due, settle_due, settle_of_due}
use Rattle.smp_model.proofs.NamedThings.{left_of, right_of, both_of, placed_ascending, placed_all, placed_count, placed_again, without_ascending, without_all, without_count, without_shorter}
use Rattle.smp_model.proofs.OnSides.{along_front, kept_along, side_with, side_other, side_changed, same_or_other}
use Rattle.smp_model.proofs.Pending.{keeps_pending, sides_part, still_sides, whole}
use Rattle.smp_model.specs.Image.{good_image}
use Rattle.smp_model.proofs.RequestKinds.{by_stepping}

or_left : (a b : Bool) → (a || b) ≡ false → a ≡ false
or_left true b h = cc
or_left false b h = refl

or_right : (a b : Bool) → (a || b) ≡ false → b ≡ false
or_right true b h = cc
or_right false b h = h

-- Settings within the limits, by their four parts.
record Limits (settings : List Setting) : Type 0 where
  each : list_all is_setting settings ≡ true
  ascending : is_ascending (λ s. s.name) settings ≡ true
  count : length settings ≤ 32
  form : length (stored_form settings) ≤ 3072

limits_of : (settings : List Setting) → is_within_limits settings ≡ true → Limits settings
limits_of settings h =
    let these = left_of (list_all is_setting settings && is_ascending (λ s. s.name) settings) _ h in
    let sizes = right_of (list_all is_setting settings && is_ascending (λ s. s.name) settings) _ h in
    let count = left_of (nat_le (length settings) 32) _ sizes in
    let form = right_of (nat_le (length settings) 32) _ sizes in
    record {
      each = left_of (list_all is_setting settings) _ these;
      ascending = right_of (list_all is_setting settings) _ these;
      count = grind (arith, nat_tests, count);
      form = grind (arith, nat_tests, form);
    }

within : (settings : List Setting) → Limits settings → is_within_limits settings ≡ true
within settings l =
    let count : nat_le (length settings) 32 ≡ true = grind (arith, nat_tests, l.count) in
    let form : nat_le (length (stored_form settings)) 3072 ≡ true = grind (arith, nat_tests, l.form) in
    both_of (list_all is_setting settings && is_ascending (λ s. s.name) settings) _
    (both_of (list_all is_setting settings) _ l.each l.ascending) (both_of (nat_le (length settings) 32) _ count form)

written_count : (name val : List ℕ) (settings : List Setting) → length settings ≤ 32 → (is_none (value_of name settings) && nat_le 32 (length settings)) ≡ false
    → length (written_setting name val settings) ≤ 32
written_count name val settings h free = go (named (λ (s : Setting). s.name) name settings) refl
  where
    new : nat_le 32 (length settings) ≡ false → length (written_setting name val settings) ≤ 32
    new e =
        let fewer : length settings + 1 ≤ 32 = grind (arith, nat_tests, e) in
        omega (arith, placed_count (λ (s : Setting). s.name) (setting name val) settings, fewer)

    none : (o : Option (List ℕ)) → value_of name settings ≡ o → is_none o ≡ true → nat_le 32 (length settings) ≡ false
    none o e f = grind (arith, free, e, f)

    go : (o : Option Setting) → named (λ (s : Setting). s.name) name settings ≡ o → length (written_setting name val settings) ≤ 32
    go None e = new (none None (ap (option_val) e) refl)
      where
        option_val : Option Setting → Option (List ℕ)
        option_val None = None
        option_val (Some s) = Some s.val
    go (Some s) e = omega (arith, placed_again (λ (s : Setting). s.name) (setting name val) settings s e, h)

written_within : (name val : List ℕ) (settings : List Setting) → is_within_limits settings ≡ true → is_setting_name name ≡ true → is_utf8 name ≡ true → is_setting_value val ≡ true
    → is_full name val settings ≡ false → is_within_limits (written_setting name val settings) ≡ true
written_within name val settings h n u v full =
    let l = limits_of settings h in
    let free = or_left (is_none (value_of name settings) && nat_le 32 (length settings)) _ full in
    let short = or_right (is_none (value_of name settings) && nat_le 32 (length settings)) _ full in
    within (written_setting name val settings) (record {
      each = placed_all (λ (s : Setting). s.name) is_setting (setting name val) settings (both_of (is_setting_name name && is_utf8 name) _ (both_of (is_setting_name name) _ n u) v) l.each;
      ascending = placed_ascending (λ (s : Setting). s.name) (setting name val) settings l.ascending;
      count = written_count name val settings l.count free;
      form = grind (arith, nat_tests, short);
    })

deleted_within : (name : List ℕ) (settings : List Setting) → is_within_limits settings ≡ true → is_within_limits (deleted_setting name settings) ≡ true
deleted_within name settings h =
    let l = limits_of settings h in
    within (deleted_setting name settings) (record {
      each = without_all (λ (s : Setting). s.name) is_setting name settings l.each;
      ascending = without_ascending (λ (s : Setting). s.name) name settings l.ascending;
      count = omega (arith, without_count (λ (s : Setting). s.name) name settings, l.count);
      form = omega (arith, without_shorter (λ (s : Setting). s.name) stored_setting name settings, l.form);
    })

-- Files within the limits, by their three parts.
record FileLimits (files : List StoredFile) : Type 0 where
  each : list_all is_file files ≡ true
  ascending : is_ascending (λ f. f.name) files ≡ true
  count : length files ≤ 8

file_limits_of : (files : List StoredFile) → are_files files ≡ true → FileLimits files
file_limits_of files h =
    let these = left_of (list_all is_file files && is_ascending (λ f. f.name) files) _ h in
    let count = right_of (list_all is_file files && is_ascending (λ f. f.name) files) _ h in
    record { each = left_of (list_all is_file files) _ these; ascending = right_of (list_all is_file files) _ these; count = grind (arith, nat_tests, count) }

within_files : (files : List StoredFile) → FileLimits files → are_files files ≡ true
within_files files l =
    let count : nat_le (length files) 8 ≡ true = grind (arith, nat_tests, l.count) in
    both_of (list_all is_file files && is_ascending (λ f. f.name) files) _ (both_of (list_all is_file files) _ l.each l.ascending) count

-- a file that is placed, where there is room for it
placed_files : (name held : List ℕ) (announced : ℕ) (files : List StoredFile) → FileLimits files → is_file_name name ≡ true → length held ≤ announced → announced ≤ 16384
    → length (stored_file name announced held files) ≤ 8 → are_files (stored_file name announced held files) ≡ true
placed_files name held announced files l n h a room =
    let f : StoredFile = record { name = name; announced = announced; held = held } in
    let fits : nat_le (length held) announced ≡ true = grind (arith, nat_tests, h) in
    let short : nat_le announced 16384 ≡ true = grind (arith, nat_tests, a) in
    within_files (stored_file name announced held files) (record {
      each = placed_all (λ (g : StoredFile). g.name) is_file f files (both_of (is_file_name name) _ n (both_of (nat_le (length held) announced) _ fits short)) l.each;
      ascending = placed_ascending (λ (g : StoredFile). g.name) f files l.ascending;
      count = room;
    })

begun_room : (name part : List ℕ) (len : ℕ) (files : List StoredFile) → length files ≤ 8 → is_no_free_file files name ≡ false → length (stored_file name len part files) ≤ 8
begun_room name part len files h free = go (file_of name files) refl
  where
    f : StoredFile
    f = record { name = name; announced = len; held = part }

    new : nat_le 8 (length files) ≡ false → length (stored_file name len part files) ≤ 8
    new e =
        let fewer : length files + 1 ≤ 8 = grind (arith, nat_tests, e) in
        omega (arith, placed_count (λ (g : StoredFile). g.name) f files, fewer)

    none : (o : Option StoredFile) → file_of name files ≡ o → is_none o ≡ true → nat_le 8 (length files) ≡ false
    none o e k = grind (arith, free, e, k)

    go : (o : Option StoredFile) → file_of name files ≡ o → length (stored_file name len part files) ≤ 8
    go None e = new (none None e refl)
    go (Some g) e = omega (arith, placed_again (λ (g : StoredFile). g.name) f files g e, h)

begun_files : (name part : List ℕ) (len : ℕ) (files : List StoredFile) → are_files files ≡ true → is_file_name name ≡ true → nat_lt 16384 len ≡ false → nat_lt len (length part) ≡ false
    → is_no_free_file files name ≡ false → are_files (stored_file name len part files) ≡ true
begun_files name part len files h n l p free =
    let limits = file_limits_of files h in
    let held : length part ≤ len = grind (arith, nat_tests, p) in
    let short : len ≤ 16384 = grind (arith, nat_tests, l) in
    placed_files name part len files limits n held short (begun_room name part len files limits.count free)

-- a file that is found is within the limits, and has the name
found_file : (name : List ℕ) (files : List StoredFile) (f : StoredFile) → list_all is_file files ≡ true → file_of name files ≡ Some f → (is_file f ≡ true) × (f.name ≡ name)
found_file name [] f h e = cc
found_file name (g ∷ files) f h e = go (bytes_eq g.name name) refl e (found_file name files f (right_of (is_file g) (list_all is_file files) h))
  where
    some_same : (x y : StoredFile) → Some x ≡ Some y → x ≡ y
    some_same x y k = cc

    go : (b : Bool) → bytes_eq g.name name ≡ b → (if b then Some g else file_of name files) ≡ Some f → (file_of name files ≡ Some f → (is_file f ≡ true) × (f.name ≡ name)) → (is_file f ≡ true) × (f.name ≡ name)
    go true k e less = subst (λ x. (is_file x ≡ true) × (x.name ≡ name)) (some_same g f e) (left_of (is_file g) (list_all is_file files) h, (bytes_eq-Decides g.name name).0 k)
    go false k e less = less e

continued_files : (part : List ℕ) (files : List StoredFile) (f : StoredFile) → are_files files ≡ true → is_file f ≡ true → file_of f.name files ≡ Some f → length f.held + length part ≤ f.announced
    → are_files (stored_file f.name f.announced (f.held ++ part) files) ≡ true
continued_files part files f h k e fits =
    let limits = file_limits_of files h in
    let sizes = right_of (is_file_name f.name) _ k in
    let short = right_of (nat_le (length f.held) f.announced) _ sizes in
    let most : f.announced ≤ 16384 = grind (arith, nat_tests, short) in
    placed_files f.name (f.held ++ part) f.announced files limits (left_of (is_file_name f.name) _ k) (omega (arith, fits, length-append f.held part)) most
    (omega (arith, placed_again (λ (g : StoredFile). g.name) (record { name = f.name; announced = f.announced; held = f.held ++ part }) files f e, limits.count))

-- A step that is due leaves an upload that fits.
abbrev InUnits : ℕ → ℕ → ℕ → Type 0
InUnits unit size held = (held ≡ size) ⊎ ((n : ℕ) × (held ≡ unit * n))

units_more : (unit size held more : ℕ) → InUnits unit size held → held + more ≤ size → (held + more ≡ size) ⊎ ((n : ℕ) × (more ≡ unit * n)) → InUnits unit size (held + more)
units_more unit size held more h fits (inl e) = inl e
units_more unit size held more (inl full) fits (inr n) = inl (omega (arith, full, fits))
units_more unit size held more (inr m) fits (inr n) = inr (m.0 + n.0, grind (arith, m.1, n.1))

accepted_fits : (sizes : Sizes) (a : Announcement) (held more : List ℕ) → FitsUpload sizes (record { announcement = a; accepted = held })
    → length held + length more ≤ a.length → (length held + length more ≡ a.length) ⊎ ((n : ℕ) × (length more ≡ sizes.unit * n))
    → FitsUpload sizes (record { announcement = a; accepted = held ++ more })
accepted_fits sizes a held more f fits units = record {
  slot = f.slot;
  within = omega (arith, fits, length-append held more);
  units = subst (InUnits sizes.unit a.length) (sym (length-append held more)) (units_more sizes.unit a.length (length held) (length more) f.units fits units);
}

goes_on_fits : (sizes : Sizes) (x : List ℕ) (u : Option Upload) → UploadFits sizes u → GoesOnAt sizes.unit x u → UploadFits sizes (appended u x)
goes_on_fits sizes x None f g = tt
goes_on_fits sizes x (Some u) f g = accepted_fits sizes u.announcement u.accepted x f g.within g.units

fits_step : (sizes : Sizes) (m : Meant) (s : Side) (t : SideStep) → UploadFits sizes s.upload → IsSideStepDue sizes m t s → UploadFits sizes (side_apply t s).upload
fits_step sizes m s (Choose a) f h = record { slot = h.1.0; within = omega arith; units = inr (0, omega arith) }
fits_step sizes m s (Append x) f h = goes_on_fits sizes x s.upload f h.0
fits_step sizes m s Drop f h = tt
fits_step sizes m s (MarkPending k) f h = f
fits_step sizes m s Confirm f h = f

-- no step changes slot 0
active_kept : (t : SideStep) (s : Side) → (side_apply t s).active ≡ s.active
active_kept (Choose a) s = refl
active_kept (Append x) s = refl
active_kept Drop s = refl
active_kept (MarkPending k) s = refl
active_kept Confirm s = refl

consistent_step : (sizes : Sizes) (m : Meant) (s : Side) (t : SideStep) → IsConsistentSide sizes s → IsSideStepDue sizes m t s → IsConsistentSide sizes (side_apply t s)
consistent_step sizes m s t c h = record {
  active = ap (λ a. length a + sizes.page) (active_kept t s) ∙ c.active;
  image = subst (λ a. IsSome (good_image a)) (sym (active_kept t s)) c.image;
  upload = fits_step sizes m s t c.upload h;
  pending = keeps_pending sizes m s t c.pending h;
}

-- What is not on the upload: settings and files.
record Rest (d : AbstractDevice) : Type 0 where
  saved : is_within_limits d.saved ≡ true
  running : is_within_limits d.running ≡ true
  files : are_files d.files ≡ true

abbrev AllRest : AbstractDevice → List Step → Type 0
AllRest d [] = Unit {0}
AllRest d (s ∷ steps) = Rest (apply s d) × AllRest (apply s d) steps

rest_after : (front rest : List Step) (d : AbstractDevice) → Rest d → AllRest d (front ++ rest) → Rest (applied front d)
rest_after [] rest d r h = r
rest_after (s ∷ front) rest d r h = rest_after front rest (apply s d) h.0 h.1

-- steps on the slots, and on where parts go
abbrev IsSlotStep : Step → Type 0
IsSlotStep (OnSide i t) = Unit {0}
IsSlotStep Save = ⊥
IsSlotStep (Run (aim_at i)) = Unit {0}
IsSlotStep (Run (write_setting name val)) = ⊥
IsSlotStep (Run (delete_setting name)) = ⊥
IsSlotStep (Run load_settings) = ⊥
IsSlotStep (Run (begin_file name announced part)) = ⊥
IsSlotStep (Run (append_file name part)) = ⊥

rest_with : (i : ℕ) (f : Side → Side) (d : AbstractDevice) → Rest d → Rest (with_side i f d)
rest_with zero f d r = record { saved = r.saved; running = r.running; files = r.files }
rest_with (suc zero) f d r = record { saved = r.saved; running = r.running; files = r.files }
rest_with (suc (suc n)) f d r = r

rest_step : (d : AbstractDevice) (s : Step) → IsSlotStep s → Rest d → Rest (apply s d)
rest_step d (OnSide i t) h r = rest_with i (side_apply t) d r
rest_step d Save h r = absurd h
rest_step d (Run (aim_at i)) h r = record { saved = r.saved; running = r.running; files = r.files }
rest_step d (Run (write_setting name val)) h r = absurd h
rest_step d (Run (delete_setting name)) h r = absurd h
rest_step d (Run load_settings) h r = absurd h
rest_step d (Run (begin_file name announced part)) h r = absurd h
rest_step d (Run (append_file name part)) h r = absurd h

slot_step : (sizes : Sizes) (target : ℕ) (m : Meant) → IsAboutImages m → (IsFileWrite m → ⊥) → (e : AbstractDevice) (t : Step) → IsStepDue sizes target m e t → IsSlotStep t
slot_step sizes target m about files e (OnSide i t) h = tt
slot_step sizes target m about files e Save h = subst IsAboutImages h about
slot_step sizes target m about files e (Run (aim_at i)) h = tt
slot_step sizes target m about files e (Run (write_setting name val)) h = subst IsAboutImages h about
slot_step sizes target m about files e (Run (delete_setting name)) h = subst IsAboutImages h about
slot_step sizes target m about files e (Run load_settings) h = subst IsAboutImages h about
slot_step sizes target m about files e (Run (begin_file name announced part)) h = files h
slot_step sizes target m about files e (Run (append_file name part)) h = files h

slot_rest : (sizes : Sizes) (target : ℕ) (m : Meant) → IsAboutImages m → (IsFileWrite m → ⊥) → (steps : List Step) (d : AbstractDevice) → Rest d → AllDue sizes target m d steps → AllRest d steps
slot_rest sizes target m about files [] d r h = tt
slot_rest sizes target m about files (t ∷ steps) d r h =
    let now = rest_step d t (slot_step sizes target m about files d t h.0) r in
    (now, slot_rest sizes target m about files steps (apply t d) now h.1)

-- settings and files that are written
not_false : (b : Bool) → not b ≡ false → b ≡ true
not_false true e = refl
not_false false e = cc

writes_setting_rest : (d : AbstractDevice) (name val : List ℕ) → is_utf8 name ≡ true → Rest d → AllRest d (writes_setting d.running name val).steps
writes_setting_rest d name val u r =
    by_if Kept (not (is_setting_name name)) _ _ (λ e. tt)
    (λ n. by_if Kept (not (is_setting_value val)) _ _ (λ e. tt)
    (λ v. by_if Kept (is_full name val d.running) _ _ (λ e. tt)
    (λ room. (
      record {
        saved = r.saved;
        running = written_within name val d.running r.running (not_false (is_setting_name name) n) u (not_false (is_setting_value val) v) room;
        files = r.files;
      },
      tt,
    ))))
  where
    Kept : Response → Type 0
    Kept x = AllRest d x.steps

deletes_value_rest : (d : AbstractDevice) (name : List ℕ) (val : Option (List ℕ)) → Rest d → AllRest d (deletes_value name val).steps
deletes_value_rest d name None r = tt
deletes_value_rest d name (Some val) r = (record { saved = r.saved; running = deleted_within name d.running r.running; files = r.files }, tt)

deletes_setting_rest : (d : AbstractDevice) (name : List ℕ) → Rest d → AllRest d (deletes_setting d.running name).steps
deletes_setting_rest d name r =
    either_way (λ (x : Response). AllRest d x.steps) (not (is_setting_name name)) _ _ tt (deletes_value_rest d name (value_of name d.running) r)

begins_file_rest : (d : AbstractDevice) (name part : List ℕ) (len : Option ℕ) → is_file_name name ≡ true → Rest d → AllRest d (begins_file d.files name part len).steps
begins_file_rest d name part None n r = tt
begins_file_rest d name part (Some len) n r =
    by_if Kept (nat_lt longest_file len) _ _ (λ e. tt)
    (λ short. by_if Kept (nat_lt len (length part)) _ _ (λ e. tt)
    (λ fits. by_if Kept (is_no_free_file d.files name) _ _ (λ e. tt)
    (λ free. (record { saved = r.saved; running = r.running; files = begun_files name part len d.files r.files n short fits free }, tt))))
  where
    Kept : Response → Type 0
    Kept x = AllRest d x.steps

lengthened_files : (part : List ℕ) (files : List StoredFile) (f : StoredFile) → are_files files ≡ true → file_of f.name files ≡ Some f → length f.held + length part ≤ f.announced
    → are_files (lengthened part (file_of f.name files) files) ≡ true
lengthened_files part files f h e fits =
    subst (λ o. are_files (lengthened part o files) ≡ true) (sym e)
    (continued_files part files f h (found_file f.name files f (file_limits_of files h).each e).0 e fits)

continues_file_rest : (d : AbstractDevice) (off : ℕ) (part : List ℕ) (f : StoredFile) → file_of f.name d.files ≡ Some f → Rest d → AllRest d (continues_file off part f).steps
continues_file_rest d off part f found r =
    either_way Kept (not (off == length f.held)) _ _ tt
    (by_if Kept (nat_lt f.announced (length f.held + length part)) _ _ (λ e. tt)
    (λ e.
    let fits : length f.held + length part ≤ f.announced = grind (arith, nat_tests, e) in
    (record { saved = r.saved; running = r.running; files = lengthened_files part d.files f r.files found fits }, tt)))
  where
    Kept : Response → Type 0
    Kept x = AllRest d x.steps

named_file_rest : (d : AbstractDevice) (off : ℕ) (part name : List ℕ) → Rest d → (o : Option StoredFile) → file_of name d.files ≡ o → AllRest d (if_file o (continues_file off part)).steps
named_file_rest d off part name r None e = tt
named_file_rest d off part name r (Some f) e =
    let same = (found_file name d.files f (file_limits_of d.files r.files).each e).1 in
    continues_file_rest d off part f (subst (λ n. file_of n d.files ≡ Some f) (sym same) e) r

writes_file_rest : (d : AbstractDevice) (off : ℕ) (part : List ℕ) (len : Option ℕ) (name : List ℕ) → Rest d → AllRest d (writes_file d.files off part len name).steps
writes_file_rest d off part len name r =
    by_if Kept (not (is_file_name name)) _ _ (λ e. tt)
    (λ n. either_way Kept (off == 0) _ _ (begins_file_rest d name part len (not_false (is_file_name name) n) r) (named_file_rest d off part name r (file_of name d.files) refl))
  where
    Kept : Response → Type 0
    Kept x = AllRest d x.steps

does_rest : (sizes : Sizes) (d : AbstractDevice) (m : Meant) → HasTexts m → Rest d → AllRest d (does sizes d m).steps
does_rest sizes d = by_stepping sizes d (λ m. HasTexts m → Rest d → AllRest d (does sizes d m).steps) (record {
  still = λ m none t r. subst (AllRest d) (sym none) tt;
  setting_write = λ name val t r. writes_setting_rest d name val t r;
  setting_delete = λ name t r. deletes_setting_rest d name r;
  file_write = λ off part len name t r. writes_file_rest d off part len name r;
  load = λ t r. (record { saved = r.saved; running = r.saved; files = r.files }, tt);
  save = λ t r. (record { saved = r.running; running = r.running; files = r.files }, tt);
  image_list = λ t r. slots meant.image_list tt (λ x. x) r;
  image_set = λ hash confirm t r. slots (meant.image_set hash confirm) tt (λ x. x) r;
  upload = λ image len off sha part t r. slots (meant.upload image len off sha part) tt (λ x. x) r;
  erase = λ slot t r. slots (meant.erase slot) tt (λ x. x) r;
})
  where
    slots : (m : Meant) → IsAboutImages m → (IsFileWrite m → ⊥) → Rest d → AllRest d (does sizes d m).steps
    slots m about files r = slot_rest sizes d.target m about files (does sizes d m).steps d r (does_due sizes d m)

rest_of : (sizes : Sizes) (d : AbstractDevice) → IsConsistent sizes d → Rest d
rest_of sizes d c = record { saved = c.saved; running = c.running; files = c.files }

-- parts go to an image that is there
some_mapped : {A B : Type 0} (f : A → B) (o : Option A) → IsSome o → IsSome (option_map f o)
some_mapped f None h = cc
some_mapped f (Some x) h = refl

there_with : (j i : ℕ) (f : Side → Side) (d : AbstractDevice) → IsSome (side_at j d) → IsSome (side_at j (with_side i f d))
there_with j i f d h = elim (same_or_other i j) [
  | inl e ↦ subst (λ k. IsSome (side_at k (with_side i f d))) e (subst IsSome (sym (side_with i f d)) (some_mapped f (side_at i d) (subst (λ k. IsSome (side_at k d)) (sym e) h)))
  | inr e ↦ subst IsSome (sym (side_other i j f d e)) h
]

target_with : (i : ℕ) (f : Side → Side) (d : AbstractDevice) → (with_side i f d).target ≡ d.target
target_with zero f d = refl
target_with (suc zero) f d = refl
target_with (suc (suc n)) f d = refl

abbrev AimsWell : AbstractDevice → Type 0
AimsWell d = IsSome (side_at d.target d)

aims_step : (sizes : Sizes) (target : ℕ) (m : Meant) (d : AbstractDevice) (t : Step) → IsStepDue sizes target m d t → AimsWell d → AimsWell (apply t d)
aims_step sizes target m d (OnSide i t) h a =
    subst (λ k. IsSome (side_at k (with_side i (side_apply t) d))) (sym (target_with i (side_apply t) d)) (there_with d.target i (side_apply t) d a)
aims_step sizes target m d Save h a = subst IsSome (sym (same d.target)) a
  where
    same : (i : ℕ) → side_at i (apply Save d) ≡ side_at i d
    same zero = refl
    same (suc zero) = refl
    same (suc (suc n)) = refl
aims_step sizes target m d (Run (aim_at i)) h a = subst IsSome (sym (side_changed i (aim_at i) d)) h.1.1
aims_step sizes target m d (Run (write_setting name val)) h a = subst IsSome (sym (side_changed d.target (write_setting name val) d)) a
aims_step sizes target m d (Run (delete_setting name)) h a = subst IsSome (sym (side_changed d.target (delete_setting name) d)) a
aims_step sizes target m d (Run load_settings) h a = subst IsSome (sym (side_changed d.target load_settings d)) a
aims_step sizes target m d (Run (begin_file name announced part)) h a = subst IsSome (sym (side_changed d.target (begin_file name announced part) d)) a
aims_step sizes target m d (Run (append_file name part)) h a = subst IsSome (sym (side_changed d.target (append_file name part) d)) a

-- where steps are broken off
part_consistent : (sizes : Sizes) (target : ℕ) (m : Meant) (d e : AbstractDevice) (steps : List Step) → IsConsistent sizes d → AllDue sizes target m d steps → AllRest d steps → Part d steps e → IsConsistent sizes e
part_consistent sizes target m d e steps c due rests p =
    let rest = subst Rest (sym p.reached) (rest_after p.front p.rest d (rest_of sizes d c) (subst (AllRest d) p.split rests)) in
    record {
      sides = sides_part (IsConsistentSide sizes) sizes target m (consistent_step sizes m) d e steps due c.sides p;
      saved = rest.saved;
      running = rest.running;
      files = rest.files;
      target = subst AimsWell (sym p.reached) (kept_along (IsStepDue sizes target m) AimsWell p.front d (aims_step sizes target m)
          (along_front (IsStepDue sizes target m) p.front p.rest d (subst (AllDue sizes target m d) p.split due)) c.target);
    }

pub request_consistent : (sizes : Sizes) (d e : AbstractDevice) (m : Meant) → IsConsistent sizes d → HasTexts m → Part d (does sizes d m).steps e → IsConsistent sizes e
request_consistent sizes d e m c t p =
    part_consistent sizes d.target m d e (does sizes d m).steps c (does_due sizes d m) (does_rest sizes d m t (rest_of sizes d c)) p

pub settle_consistent : (sizes : Sizes) (d e : AbstractDevice) → IsConsistent sizes d → Part d (settle_steps d) e → IsConsistent sizes e
settle_consistent sizes d e c p =
    let due = settle_due sizes 0 meant.image_list refl d in
    part_consistent sizes 0 meant.image_list d e (settle_steps d) c due (slot_rest sizes 0 meant.image_list tt (λ x. x) (settle_steps d) d (rest_of sizes d c) due) p

pub settle_of_consistent : (sizes : Sizes) (i : ℕ) (d e : AbstractDevice) → IsConsistent sizes d → Part d (settle_steps_of i d) e → IsConsistent sizes e
settle_of_consistent sizes i d e c p =
    let due = settle_of_due sizes 0 meant.image_list refl i d in
    part_consistent sizes 0 meant.image_list d e (settle_steps_of i d) c due (slot_rest sizes 0 meant.image_list tt (λ x. x) (settle_steps_of i d) d (rest_of sizes d c) due) p

pub start_consistent : (sizes : Sizes) (d : AbstractDevice) → IsConsistent sizes d → IsConsistent sizes (start d)
start_consistent sizes d c =
    let k = settle_consistent sizes d (settle d) c (whole d (settle_steps d)) in
    record { sides = still_sides (IsConsistentSide sizes) (settle d) (start d) refl refl k.sides; saved = k.saved; running = c.saved; files = refl; target = refl }
