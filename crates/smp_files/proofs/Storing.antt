-- What a part makes of files within the limits.
use Rattle.std.proofs.Common.{◌≡◌, ◌≤◌, ◌<◌, ◌+◌, ◌&&◌, ◌==◌, not, ℕ, suc, List, [], ◌∷◌, ◌++◌, length, take, drop, get_or, Bool, true, false, Option, Some, None, Ok, refl, sym, ap, subst, ◌∙◌, arith, length-append, if◌then◌else◌}
use Rattle.std.specs.Prelude.{nat_le, nat_lt, is_none, slice_set}
use Rattle.std.specs.List.{list_all}
use Rattle.std.specs.Str.{bytes_eq}
use Rattle.std.proofs.lemmas.Bool.Decides.{nat_tests}
use Rattle.std.proofs.lemmas.Slice.Eq.{bytes_eq-Decides}
use Rattle.smp_model.specs.declared.device.StoredFile.{StoredFile}
use Rattle.smp_model.specs.Consistent.{is_file, are_files}
use Rattle.smp_model.specs.declared.error.TheConstants.{NO_FREE_FILE, FILE_TOO_LONG, PAST_FILE_END}
use Rattle.smp_model.specs.FileGroup.{refuses_file, is_no_free_file, begins_file, continues_file}
use Rattle.smp_model.specs.Files.{is_file_name, file_of, stored_file, lengthened}
use Rattle.smp_model.specs.Named.{comes_before, is_ascending, without}
use Rattle.smp_model.specs.Response.{Response, responds, reply_alone}
use Rattle.smp_model.specs.Said as said
use Rattle.smp_model.specs.Steps.{Run, begin_file, append_file}
use Rattle.smp_files.specs.Places.{file, TakenFrom}
use Rattle.smp_files.specs.Writing.{Responds}
use Rattle.smp_files.proofs.Naming.{left_of, right_of, both_of, placed_ascending, placed_all, placed_new, placed_over, placed_without, named_without, without_ascending, without_none, found_first, all_second, ascending_before, all_weaker, before_other}
use Rattle.smp_files.proofs.Places.{split_at, length_front}

-- Files within the limits, by their three parts.
pub record FileLimits (files : List StoredFile) : Type 0 where
  pub each : list_all is_file files ≡ true
  pub ascending : is_ascending (λ f. f.name) files ≡ true
  pub count : length files ≤ 8

pub file_limits_of : (files : List StoredFile) → are_files files ≡ true → FileLimits files
file_limits_of files h =
    let these = left_of (list_all is_file files && is_ascending (λ f. f.name) files) _ h in
    let count = right_of (list_all is_file files && is_ascending (λ f. f.name) files) _ h in
    record { each = left_of (list_all is_file files) _ these; ascending = right_of (list_all is_file files) _ these; count = grind (arith, nat_tests, count) }

within_files : (files : List StoredFile) → FileLimits files → are_files files ≡ true
within_files files l =
    let count : nat_le (length files) 8 ≡ true = grind (arith, nat_tests, l.count) in
    both_of (list_all is_file files && is_ascending (λ f. f.name) files) _ (both_of (list_all is_file files) _ l.each l.ascending) count

-- a file that is placed, where there is room for it
placed_files : (name held : List ℕ) (announced : ℕ) (files : List StoredFile) → FileLimits files → is_file_name name ≡ true → length held ≤ announced → announced ≤ 16384
    → length (stored_file name announced held files) ≤ 8 → are_files (stored_file name announced held files) ≡ true
placed_files name held announced files l n h a room =
    let fits : nat_le (length held) announced ≡ true = grind (arith, nat_tests, h) in
    let short : nat_le announced 16384 ≡ true = grind (arith, nat_tests, a) in
    within_files (stored_file name announced held files) (record {
      each = placed_all (λ (g : StoredFile). g.name) is_file (file name announced held) files (both_of (is_file_name name) _ n (both_of (nat_le (length held) announced) _ fits short)) l.each;
      ascending = placed_ascending (λ (g : StoredFile). g.name) (file name announced held) files l.ascending;
      count = room;
    })

-- memory was taken, so the name is not new, or there are fewer files than there may be
free_place : (buffer name : List ℕ) (old gone : List StoredFile) (before now : ℕ) → length old + before ≡ 8 → TakenFrom buffer name old gone before now → is_no_free_file old name ≡ false
free_place buffer name old gone before now sum t = go (file_of name old) refl
  where
    go : (o : Option StoredFile) → file_of name old ≡ o → (is_none o && nat_le 8 (length old)) ≡ false
    go None e =
        let same : length gone ≡ length old = ap length (t.files ∙ without_none (λ (f : StoredFile). f.name) name old e) in
        let fewer : length old < 8 = omega (arith, t.count, sum, same) in
        grind (arith, nat_tests, fewer)
    go (Some f) e = refl

-- the files after the first part
pub record Begun (name part : List ℕ) (len : ℕ) (old new : List StoredFile) (spare : ℕ) : Type 0 where
  pub is : new ≡ stored_file name len part old
  pub free : is_no_free_file old name ≡ false
  pub lawful : are_files new ≡ true
  pub memory : length new + spare ≡ 8

pub begun : (buffer name part held : List ℕ) (len : ℕ) (old gone new : List StoredFile) (before now : ℕ) → are_files old ≡ true → length old + before ≡ 8
    → TakenFrom buffer name old gone before now → is_file_name name ≡ true → len ≤ 16384 → length part ≤ len → held ≡ buffer ++ part → new ≡ stored_file name len held gone
    → Begun name part len old new now
begun buffer name part held len old gone new before now h sum t n short fits added put =
    let l = file_limits_of old h in
    let rest = without (λ (f : StoredFile). f.name) name old in
    let sorted : is_ascending (λ f. f.name) rest ≡ true = without_ascending (λ (f : StoredFile). f.name) name old l.ascending in
    let one : length (stored_file name len part rest) ≡ length rest + 1 = placed_new (λ (f : StoredFile). f.name) (file name len part) rest sorted (named_without (λ (f : StoredFile). f.name) name old) in
    let same : stored_file name len part rest ≡ stored_file name len part old = placed_without (λ (f : StoredFile). f.name) (file name len part) old in
    let bytes : held ≡ part = added ∙ ap (λ b. b ++ part) t.empty in
    let is : new ≡ stored_file name len part old = put ∙ (ap (λ b. stored_file name len b gone) bytes ∙ (ap (stored_file name len part) t.files ∙ same)) in
    let size : length new ≡ length gone + 1 = ap length (is ∙ sym same) ∙ (one ∙ ap (λ xs. length xs + 1) (sym t.files)) in
    let memory : length new + now ≡ 8 = omega (arith, size, t.count, sum) in
    let few : length (stored_file name len part old) ≤ 8 = omega (arith, memory, ap length is) in
    record {
      is = is;
      free = free_place buffer name old gone before now sum t;
      lawful = ap are_files is ∙ placed_files name part len old l n fits short few;
      memory = memory;
    }

pub begun_responds : (name part : List ℕ) (len spare : ℕ) (old new : List StoredFile) → len ≤ 16384 → length part ≤ len → Begun name part len old new spare
    → Responds (begins_file old name part (Some len)) (Ok (length part)) old new
begun_responds name part len spare old new short fits b =
    let not_long : nat_lt 16384 len ≡ false = grind (arith, nat_tests, short) in
    let not_past : nat_lt len (length part) ≡ false = grind (arith, nat_tests, fits) in
    subst (λ (r : Response). Responds r (Ok (length part)) old new) (sym (chosen (refuses_file FILE_TOO_LONG) (refuses_file PAST_FILE_END) (refuses_file NO_FREE_FILE) (responds (said.offset (length part) None) (Run (begin_file name len part) ∷ []))
    (nat_lt 16384 len) (nat_lt len (length part)) (is_no_free_file old name) not_long not_past b.free)) (record {
      reply = refl;
      steps = λ d e. ap (λ (files : List StoredFile). record d { files = files }) (ap (stored_file name len part) e ∙ sym b.is);
    })
  where
    chosen : (x y z w : Response) (p q r : Bool) → p ≡ false → q ≡ false → r ≡ false → (if p then x else if q then y else if r then z else w) ≡ w
    chosen x y z w true q r e f g = absurd (cc e)
    chosen x y z w false true r e f g = absurd (cc f)
    chosen x y z w false false true e f g = absurd (cc g)
    chosen x y z w false false false e f g = refl

-- no memory: there is no free file
pub none_free : (name : List ℕ) (old : List StoredFile) (before : ℕ) → file_of name old ≡ None → before ≡ 0 → length old + before ≡ 8 → is_no_free_file old name ≡ true
none_free name old before e none sum =
    let full : nat_le 8 (length old) ≡ true = (let many : 8 ≤ length old = omega (arith, none, sum) in grind (arith, nat_tests, many)) in
    ap (λ (o : Option StoredFile). is_none o && nat_le 8 (length old)) e ∙ full

-- a file at its place
first_there : (front rest : List StoredFile) (f : StoredFile) → is_ascending (λ g. g.name) (front ++ f ∷ rest) ≡ true → file_of f.name (front ++ f ∷ rest) ≡ Some f
first_there front rest f sorted =
    found_first (λ (g : StoredFile). bytes_eq g.name f.name) front f rest
    (all_weaker (λ (g : StoredFile). comes_before g.name f.name) (λ (g : StoredFile). not (bytes_eq g.name f.name)) (λ g e. before_other g.name f.name e) front (ascending_before (λ (g : StoredFile). g.name) front f rest sorted))
    ((bytes_eq-Decides f.name f.name).1 refl)

lengthened_there : (front rest : List StoredFile) (f : StoredFile) (part : List ℕ) → is_ascending (λ g. g.name) (front ++ f ∷ rest) ≡ true
    → lengthened part (file_of f.name (front ++ f ∷ rest)) (front ++ f ∷ rest) ≡ front ++ file f.name f.announced (f.held ++ part) ∷ rest
lengthened_there front rest f part sorted =
    ap (λ (o : Option StoredFile). lengthened part o (front ++ f ∷ rest)) (first_there front rest f sorted)
    ∙ placed_over (λ (g : StoredFile). g.name) (file f.name f.announced (f.held ++ part)) front f rest sorted refl

set_there : (front rest : List StoredFile) (f g : StoredFile) (at : ℕ) → at ≡ length front → slice_set (front ++ f ∷ rest) at g ≡ front ++ g ∷ rest
set_there front rest f g at e = ap (λ n. slice_set (front ++ f ∷ rest) n g) e ∙ there front
  where
    there : (xs : List StoredFile) → slice_set (xs ++ f ∷ rest) (length xs) g ≡ xs ++ g ∷ rest
    there [] = refl
    there (x ∷ xs) = ap (λ ys. x ∷ ys) (there xs)

pub is_there : (front rest : List StoredFile) (f x : StoredFile) (at : ℕ) → at ≡ length front → x ≡ get_or (front ++ f ∷ rest) at x → x ≡ f
is_there front rest f x at e is = is ∙ (ap (λ n. get_or (front ++ f ∷ rest) n x) e ∙ there front)
  where
    there : (xs : List StoredFile) → get_or (xs ++ f ∷ rest) (length xs) x ≡ f
    there [] = refl
    there (y ∷ xs) = there xs

-- a further part is stored
pub record Continued (f : StoredFile) (part : List ℕ) (front rest old new : List StoredFile) : Type 0 where
  pub is : new ≡ lengthened part (file_of f.name old) old
  pub lawful : are_files new ≡ true
  pub size : length new ≡ length old

pub continued : (at : ℕ) (f g : StoredFile) (part : List ℕ) (front rest old new : List StoredFile) → are_files old ≡ true → old ≡ front ++ f ∷ rest → at ≡ length front
    → g ≡ file f.name f.announced (f.held ++ part) → length f.held + length part ≤ f.announced → new ≡ slice_set old at g → Continued f part front rest old new
continued at f g part front rest old new h split e is fits set =
    let l = file_limits_of (front ++ f ∷ rest) (ap are_files (sym split) ∙ h) in
    let made = file f.name f.announced (f.held ++ part) in
    let placed' : stored_file f.name f.announced (f.held ++ part) (front ++ f ∷ rest) ≡ front ++ made ∷ rest =
    placed_over (λ (x : StoredFile). x.name) made front f rest l.ascending refl in
    let now : new ≡ front ++ made ∷ rest = set ∙ (ap (λ xs. slice_set xs at g) split ∙ (set_there front rest f g at e ∙ ap (λ x. front ++ x ∷ rest) is)) in
    let lawful : is_file f ≡ true = left_of (is_file f) _ (all_second is_file front (f ∷ rest) l.each) in
    let sizes = right_of (is_file_name f.name) _ lawful in
    let short = right_of (nat_le (length f.held) f.announced) _ sizes in
    let most : f.announced ≤ 16384 = grind (arith, nat_tests, short) in
    let same : length (front ++ made ∷ rest) ≡ length (front ++ f ∷ rest) = length-append front (made ∷ rest) ∙ sym (length-append front (f ∷ rest)) in
    let few : length (stored_file f.name f.announced (f.held ++ part) (front ++ f ∷ rest)) ≤ 8 = omega (arith, ap length placed', same, l.count) in
    record {
      is = now ∙ (sym (lengthened_there front rest f part l.ascending) ∙ ap (λ xs. lengthened part (file_of f.name xs) xs) (sym split));
      lawful = ap are_files (now ∙ sym placed')
          ∙ placed_files f.name (f.held ++ part) f.announced (front ++ f ∷ rest) l (left_of (is_file_name f.name) _ lawful) (omega (arith, fits, length-append f.held part)) most few;
      size = ap length now ∙ (same ∙ ap length (sym split));
    }

pub continued_responds : (off : ℕ) (f : StoredFile) (part : List ℕ) (front rest old new : List StoredFile) → off ≡ length f.held → length f.held + length part ≤ f.announced
    → Continued f part front rest old new → Responds (continues_file off part f) (Ok (length f.held + length part)) old new
continued_responds off f part front rest old new there fits k =
    let wanted : not (off == length f.held) ≡ false = grind (arith, nat_tests, there) in
    let within : nat_lt f.announced (length f.held + length part) ≡ false = grind (arith, nat_tests, fits) in
    subst (λ (r : Response). Responds r (Ok (length f.held + length part)) old new) (sym (chosen (reply_alone (said.offset (length f.held) None)) (refuses_file PAST_FILE_END) (responds (said.offset (length f.held + length part) None) (Run (append_file f.name part) ∷ []))
    (not (off == length f.held)) (nat_lt f.announced (length f.held + length part)) wanted within)) (record {
      reply = refl;
      steps = λ d e. ap (λ (files : List StoredFile). record d { files = files }) (ap (λ xs. lengthened part (file_of f.name xs) xs) e ∙ sym k.is);
    })
  where
    chosen : (x y z : Response) (p q : Bool) → p ≡ false → q ≡ false → (if p then x else if q then y else z) ≡ z
    chosen x y z true q e f' = absurd (cc e)
    chosen x y z false true e f' = absurd (cc f')
    chosen x y z false false e f' = refl

-- a choice that was made
pub by_ok : (b : Bool) (new xs ys : List StoredFile) → new ≡ (if b then xs else ys) → b ≡ true → new ≡ xs
by_ok true new xs ys e h = e
by_ok false new xs ys e h = absurd (cc h)

-- what stands at a place is one file
pub same_item : (xs : List StoredFile) (at : ℕ) (x y : StoredFile) → at < length xs → x ≡ get_or xs at x → y ≡ get_or xs at y → x ≡ y
same_item xs at x y low e f =
    is_there (take at xs) (drop (suc at) xs) y x at (length_front at xs low) (e ∙ ap (λ zs. get_or zs at x) (split_at at xs y low f))

pub held_fits : (xs front rest : List StoredFile) (f : StoredFile) → are_files xs ≡ true → xs ≡ front ++ f ∷ rest → length f.held ≤ f.announced
held_fits xs front rest f h split =
    let l = file_limits_of (front ++ f ∷ rest) (ap are_files (sym split) ∙ h) in
    let lawful : is_file f ≡ true = left_of (is_file f) _ (all_second is_file front (f ∷ rest) l.each) in
    let fits : nat_le (length f.held) f.announced ≡ true = left_of (nat_le (length f.held) f.announced) _ (right_of (is_file_name f.name) _ lawful) in
    grind (arith, nat_tests, fits)
