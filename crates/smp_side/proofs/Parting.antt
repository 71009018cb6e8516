-- Parts of an upload: what a side answers, by what a state knows.
use Rattle.std.proofs.Common.{◌≡◌, ℕ, ◌+◌, ◌*◌, ◌/◌, ◌<◌, ◌≤◌, ◌==◌, Bool, true, false, Option, Some, None, List, [], ◌∷◌, ◌++◌, length, take, Ok, refl, sym, ◌∙◌, ap, subst, arith, nat_lt, if◌then◌else◌}
use Rattle.std.proofs.lemmas.Bool.Decides.{nat_tests}
use Rattle.std.specs.Prelude.{IfSome, option_map, is_some, ◌&&◌}
use Rattle.smp_flash.specs.Layout.{geometry_of, upload_spots}
use Rattle.smp_flash.specs.State.{FlashState}
use Rattle.smp_flash.specs.declared.layout.Layout.{Layout}
use Rattle.smp_flash.proofs.Telling.{IfSome-map}
use Rattle.smp_model.specs.declared.device.Side.{Side}
use Rattle.smp_model.specs.declared.device.Upload.{Upload}
use Rattle.smp_model.specs.declared.error.TheConstants.{PAST_UPLOAD_END}
use Rattle.smp_model.specs.declared.reply.Reply.{Reply}
use Rattle.smp_model.specs.declared.reply.Reply.TheVariants as replied
use Rattle.smp_model.specs.declared.upload.Announcement.{Announcement}
use Rattle.smp_model.specs.declared.upload.Mark.{Mark}
use Rattle.smp_model.specs.ImageGroup.{begins, start_at, part_at, new_start, resumes, takes_part, keeps, wants, refuses_part, completes}
use Rattle.smp_model.specs.Response.{SideResponse, side_responds}
use Rattle.smp_model.specs.Said.{Said, said_of, is_error}
use Rattle.smp_model.specs.Said as said
use Rattle.smp_model.specs.Sides.{Choose, Append, Drop}
use Rattle.smp_model.specs.Uploads.{is_resumed_by, is_tagged_by, kept, differs}
use Rattle.smp_upload.specs.Bytes.{SideStands, SideReadable}
use Rattle.smp_upload.specs.Faults.{upload_fault_end}
use Rattle.smp_upload.specs.Moves.{Moved, Done, mount_spots, one_step}
use Rattle.smp_upload.specs.Needs.{chunk_records}
use Rattle.smp_upload.specs.States.{Known, Knows, Says, Announced, announced, known_mounted, known_chunked, part_of, chunk_said}
use Rattle.smp_upload.specs.declared.states.Chunked.{Chunked}
use Rattle.smp_upload.specs.declared.states.Lost.{Lost}
use Rattle.smp_upload.specs.declared.states.Mounted.{Mounted}
use Rattle.smp_upload.proofs.Composing.{Done-is, Done-wider, Moved-wider, Moved-first}
use Rattle.smp_side.proofs.Spots.{upload_covers}
use Rattle.smp_upload.proofs.Sides.{OneSide, says_knows}
use Rattle.smp_side.specs.Held.{steps_by, Tells, Answers, Broken, Caused, responds_after}
use Rattle.smp_side.specs.declared.held.Held.TheVariants as helds
use Rattle.smp_side.specs.declared.held.Handed.{Handed}
use Rattle.smp_side.proofs.Answering.{Plain, Same, answers_after, answers_as, answers_more, answered, broken_off, NoRefusal}

-- an upload of which this is known
pub record Is (a : Announcement) (o : ℕ) (u : Upload) : Type 0 where
  pub announcement : u.announcement ≡ a
  pub offset : length u.accepted ≡ o

abbrev announcement_in : Announcement → Option Announced → Announcement
announcement_in a None = a
announcement_in a (Some x) = x.announcement

abbrev offset_in : Option Announced → ℕ
offset_in None = 0
offset_in (Some x) = x.offset

is_of : (a : Announcement) (o : ℕ) (u : Upload) → Some (record { announcement = a; offset = o }) ≡ Some (announced u) → Is a o u
is_of a o u e = record { announcement = sym (ap (announcement_in a) e); offset = sym (ap offset_in e) }

-- a fact of every upload of which this is known
pub upload_cases : (P : Option Upload → Type 0) (a : Announcement) (o : ℕ) (up : Option Upload) → ((u : Upload) → Is a o u → P (Some u)) → Some (record { announcement = a; offset = o }) ≡ option_map announced up → P up
upload_cases P a o None f e = absurd (cc e)
upload_cases P a o (Some u) f e = f u (is_of a o u e)

pub none_cases : (P : Option Upload → Type 0) (up : Option Upload) → P None → None ≡ option_map announced up → P up
none_cases P None p e = p
none_cases P (Some u) p e = absurd (cc e)

-- an offset and no steps, or an error
abbrev pub offers : Said → SideResponse
offers s = side_responds s []

-- Parts.

too_long : (unit : ℕ) (bytes : List ℕ) (a : Announcement) (o : ℕ) (u : Upload) → a.length < o + length bytes → Is a o u → part_of unit bytes (Some u) ≡ offers (said.group_error 1 31)
too_long unit bytes a o u lt is =
    let e : u.announcement.length ≡ a.length = ap (λ (x : Announcement). x.length) is.announcement in
    let f : length u.accepted ≡ o = is.offset in
    let b : nat_lt u.announcement.length (length u.accepted + length bytes) ≡ true = grind (arith, nat_tests, lt, e, f) in
    ap (λ (x : Bool). if x then refuses_part PAST_UPLOAD_END else keeps u.announcement u.accepted (kept unit u.announcement.length (length u.accepted) bytes)) b

-- the test of a part, by what is known
fits_as : (off : ℕ) (tag : Option (List ℕ)) (a : Announcement) (o : ℕ) (u : Upload) → Is a o u
    → ((off == length u.accepted) && is_tagged_by tag u.announcement.digest) ≡ ((off == o) && is_tagged_by tag a.digest)
fits_as off tag a o u is = λ i. (off == is.offset i) && is_tagged_by tag (is.announcement i).digest

at_other : (unit off : ℕ) (tag : Option (List ℕ)) (bytes : List ℕ) (a : Announcement) (o : ℕ) (u : Upload) → ((off == o) && is_tagged_by tag a.digest) ≡ false → Is a o u
    → part_at unit off tag bytes (Some u) ≡ offers (said.offset o None)
at_other unit off tag bytes a o u ne is =
    ap (λ (x : Bool). if x then takes_part unit u.announcement u.accepted bytes else wants (length u.accepted)) (fits_as off tag a o u is ∙ ne) ∙ ap wants is.offset

at_here : (unit off : ℕ) (tag : Option (List ℕ)) (bytes : List ℕ) (a : Announcement) (o : ℕ) (u : Upload) → ((off == o) && is_tagged_by tag a.digest) ≡ true → Is a o u
    → part_at unit off tag bytes (Some u) ≡ part_of unit bytes (Some u)
at_here unit off tag bytes a o u e is =
    ap (λ (x : Bool). if x then takes_part unit u.announcement u.accepted bytes else wants (length u.accepted)) (fits_as off tag a o u is ∙ e)

nil_of : (xs : List ℕ) → length xs ≡ 0 → xs ≡ []
nil_of [] e = refl
nil_of (x ∷ xs) e = absurd (omega arith)

take_nil : (n : ℕ) → take {A = ℕ} n [] ≡ []
take_nil n = grind arith

either_nil : (b : Bool) (xs : List ℕ) → xs ≡ [] → (if b then [] else xs) ≡ []
either_nil true xs e = refl
either_nil false xs e = e

kept_nil : (unit size o : ℕ) → kept unit size o [] ≡ []
kept_nil unit size o = either_nil (o + 0 == size) (take (unit * (0 / unit)) []) (take_nil (unit * (0 / unit)))

-- nothing more at the end
empty_part : (unit : ℕ) (a : Announcement) (o : ℕ) (u : Upload) → a.length ≡ o → Is a o u → part_of unit [] (Some u) ≡ offers (said.offset o None)
empty_part unit a o u e is =
    let g : u.announcement.length ≡ a.length = ap (λ (x : Announcement). x.length) is.announcement in
    let f : length u.accepted ≡ o = is.offset in
    let b : nat_lt u.announcement.length (length u.accepted + 0) ≡ false = grind (arith, nat_tests, e, f, g) in
    ap (λ (x : Bool). if x then refuses_part PAST_UPLOAD_END else keeps u.announcement u.accepted (kept unit u.announcement.length (length u.accepted) [])) b
    ∙ ap (keeps u.announcement u.accepted) (kept_nil unit u.announcement.length (length u.accepted)) ∙ ap wants f

-- Starts.

first_is : (unit : ℕ) (a : Announcement) (bytes : List ℕ) (b : Announcement) (p : Option Mark) (u : Upload) (r : Bool) → u.announcement ≡ b → is_resumed_by b a ≡ r
    → start_at unit a bytes p (Some u) ≡ (if r then resumes unit u.announcement u.accepted bytes else new_start unit a bytes p)
first_is unit a bytes b p u r e is =
    ap (λ (x : Bool). if x then resumes unit u.announcement u.accepted bytes else new_start unit a bytes p) (ap (λ (x : Announcement). is_resumed_by x a) e ∙ is)

some_held : (unit : ℕ) (a : Announcement) (held bytes : List ℕ) → 0 < length held → resumes unit a held bytes ≡ wants (length held)
some_held unit a [] bytes lt = absurd (omega arith)
some_held unit a (x ∷ xs) bytes lt = refl

none_held : (unit : ℕ) (a : Announcement) (held bytes : List ℕ) → length held ≡ 0 → resumes unit a held bytes ≡ takes_part unit a held bytes
none_held unit a [] bytes e = refl
none_held unit a (x ∷ xs) bytes e = absurd (omega arith)

start_new : (unit : ℕ) (a : Announcement) (bytes : List ℕ) (b : Announcement) (o : ℕ) (p : Option Mark) (u : Upload) → is_resumed_by b a ≡ false → None ≡ p → Is b o u → start_at unit a bytes p (Some u) ≡ begins unit a bytes
start_new unit a bytes b o p u r free is = first_is unit a bytes b p u false is.announcement r ∙ ap (new_start unit a bytes) (sym free)

start_held : (unit : ℕ) (a : Announcement) (bytes : List ℕ) (b : Announcement) (o : ℕ) (p : Option Mark) (u : Upload) → is_resumed_by b a ≡ true → 0 < o → Is b o u → start_at unit a bytes p (Some u) ≡ offers (said.offset o None)
start_held unit a bytes b o p u r lt is =
    let f : length u.accepted ≡ o = is.offset in
    first_is unit a bytes b p u true is.announcement r ∙ some_held unit u.announcement u.accepted bytes (omega arith) ∙ ap wants f

start_first : (unit : ℕ) (a : Announcement) (bytes : List ℕ) (b : Announcement) (o : ℕ) (p : Option Mark) (u : Upload) → is_resumed_by b a ≡ true → o ≡ 0 → Is b o u → start_at unit a bytes p (Some u) ≡ part_of unit bytes (Some u)
start_first unit a bytes b o p u r z is =
    let f : length u.accepted ≡ o = is.offset in
    first_is unit a bytes b p u true is.announcement r ∙ none_held unit u.announcement u.accepted bytes (f ∙ z)

start_busy : (unit : ℕ) (a : Announcement) (bytes : List ℕ) (b : Announcement) (o : ℕ) (p : Option Mark) (mark : Mark) (u : Upload) → is_resumed_by b a ≡ false → Some mark ≡ p → Is b o u
    → start_at unit a bytes p (Some u) ≡ offers (said.group_error 1 9)
start_busy unit a bytes b o p mark u r busy is = first_is unit a bytes b p u false is.announcement r ∙ ap (new_start unit a bytes) (sym busy)

-- Plain answers, by what is known.

pub plain_upload : OneSide → (known : Known) (a : Announcement) (o : ℕ) (respond : Option Mark → Option Upload → SideResponse) (reply : Said) (bytes : List ℕ) → known.upload ≡ Some (record { announcement = a; offset = o })
    → ((p : Option Mark) (u : Upload) → known.pending ≡ p → Is a o u → respond p (Some u) ≡ offers reply) → Says known bytes → Plain known.layout (λ side. respond side.pending side.upload) reply bytes
plain_upload one known a o respond reply bytes e f says = record {
  plain = λ side stands.
      let k : Knows known side = says_knows one known side bytes says stands in
      upload_cases (λ up. respond side.pending up ≡ offers reply) a o side.upload (λ u is. f side.pending u k.pending is) (sym e ∙ k.upload);
}

pub plain_none : OneSide → (known : Known) (respond : Option Mark → Option Upload → SideResponse) (reply : Said) (bytes : List ℕ) → known.upload ≡ None
    → ((p : Option Mark) → known.pending ≡ p → respond p None ≡ offers reply) → Says known bytes → Plain known.layout (λ side. respond side.pending side.upload) reply bytes
plain_none one known respond reply bytes e f says = record {
  plain = λ side stands.
      let k : Knows known side = says_knows one known side bytes says stands in
      none_cases (λ up. respond side.pending up ≡ offers reply) side.upload (f side.pending k.pending) (sym e ∙ k.upload);
}

-- the same response, by what is known
pub same_upload : OneSide → (known : Known) (a : Announcement) (o : ℕ) (first other : Option Mark → Option Upload → SideResponse) (x : Option (List ℕ)) → known.upload ≡ Some (record { announcement = a; offset = o })
    → ((p : Option Mark) (u : Upload) → known.pending ≡ p → Is a o u → first p (Some u) ≡ other p (Some u)) → IfSome x (Says known)
    → IfSome x (Same known.layout (λ side. first side.pending side.upload) (λ side. other side.pending side.upload))
same_upload one known a o first other x e f says = IfSome-map (Says known) (Same known.layout (λ side. first side.pending side.upload) (λ side. other side.pending side.upload)) x
    (λ bytes s. record {
      same = λ side stands.
          let k : Knows known side = says_knows one known side bytes s stands in
          upload_cases (λ up. first side.pending up ≡ other side.pending up) a o side.upload (λ u is. f side.pending u k.pending is) (sym e ∙ k.upload);
    }) says

pub same_none : OneSide → (known : Known) (first other : Option Mark → Option Upload → SideResponse) (x : Option (List ℕ)) → known.upload ≡ None
    → ((p : Option Mark) → known.pending ≡ p → first p None ≡ other p None) → IfSome x (Says known)
    → IfSome x (Same known.layout (λ side. first side.pending side.upload) (λ side. other side.pending side.upload))
same_none one known first other x e f says = IfSome-map (Says known) (Same known.layout (λ side. first side.pending side.upload) (λ side. other side.pending side.upload)) x
    (λ bytes s. record {
      same = λ side stands.
          let k : Knows known side = says_knows one known side bytes s stands in
          none_cases (λ up. first side.pending up ≡ other side.pending up) side.upload (f side.pending k.pending) (sym e ∙ k.upload);
    }) says

-- A part.

abbrev pub parting : (unit : ℕ) → List ℕ → Side → SideResponse
parting unit bytes side = part_of unit bytes side.upload

pub part_refused : OneSide → (m : Mounted) (a : Announcement) (o unit : ℕ) (bytes : List ℕ) (handed : Handed) (x : FlashState) → (known_mounted m).upload ≡ Some (record { announcement = a; offset = o }) → a.length < o + length bytes
    → handed ≡ record { held = helds.Mounted m; result = Ok (replied.GroupError 1 31) } → IfSome x.bytes (Says (known_mounted m))
    → Answers (known_mounted m).layout 2 (parting unit bytes) handed x x
part_refused one m a o unit bytes handed x e lt h says =
    answered one m 2 (parting unit bytes) (replied.GroupError 1 31) handed x h says
    (λ held s. plain_upload one (known_mounted m) a o (λ _ up. part_of unit bytes up) (said.group_error 1 31) held e (λ _ u _ is. too_long unit bytes a o u lt is) s)

-- A part that fits is not refused.

completes_fine : (held bytes : List ℕ) (digest : Option (List ℕ)) → is_error (completes held bytes digest).reply ≡ false
completes_fine held bytes None = refl
completes_fine held bytes (Some digest) = either (differs (Some digest) (held ++ bytes))
  where
    either : (b : Bool) → is_error (if b then side_responds (said.offset (length held + length bytes) (Some false)) (Append bytes ∷ Drop ∷ [])
        else side_responds (said.offset (length held + length bytes) (Some true)) (Append bytes ∷ [])).reply ≡ false
    either true = refl
    either false = refl

keeps_fine : (a : Announcement) (held bytes : List ℕ) → is_error (keeps a held bytes).reply ≡ false
keeps_fine a held [] = refl
keeps_fine a held (x ∷ xs) = either (length held + length (x ∷ xs) == a.length)
  where
    either : (b : Bool) → is_error (if b then completes held (x ∷ xs) a.digest else side_responds (said.offset (length held + length (x ∷ xs)) None) (Append (x ∷ xs) ∷ [])).reply ≡ false
    either true = completes_fine held (x ∷ xs) a.digest
    either false = refl

takes_fine : (unit : ℕ) (a : Announcement) (held bytes : List ℕ) → nat_lt a.length (length held + length bytes) ≡ false → is_error (takes_part unit a held bytes).reply ≡ false
takes_fine unit a held bytes e =
    ap (λ (x : Bool). is_error (if x then refuses_part PAST_UPLOAD_END else keeps a held (kept unit a.length (length held) bytes)).reply) e ∙ keeps_fine a held (kept unit a.length (length held) bytes)

part_fine : (unit : ℕ) (bytes : List ℕ) (a : Announcement) (o : ℕ) (u : Upload) → o + length bytes ≤ a.length → Is a o u → is_error (part_of unit bytes (Some u)).reply ≡ false
part_fine unit bytes a o u le is =
    let e : u.announcement.length ≡ a.length = ap (λ (x : Announcement). x.length) is.announcement in
    let f : length u.accepted ≡ o = is.offset in
    takes_fine unit u.announcement u.accepted bytes (grind (arith, nat_tests, le, e, f))

pub parts_fine : OneSide → (known : Known) (a : Announcement) (o unit : ℕ) (bytes : List ℕ) (x : Option (List ℕ)) → known.upload ≡ Some (record { announcement = a; offset = o }) → o + length bytes ≤ a.length
    → IfSome x (Says known) → NoRefusal known.layout (parting unit bytes) x
parts_fine one known a o unit bytes x e le says = IfSome-map (Says known) (λ held. (side : Side) → SideStands known.layout side held → is_error (part_of unit bytes side.upload).reply ≡ false) x
    (λ u s side stands.
    let k : Knows known side = says_knows one known side u s stands in
    upload_cases (λ up. is_error (part_of unit bytes up).reply ≡ false) a o side.upload (λ v is. part_fine unit bytes a o v le is) (sym e ∙ k.upload)) says

-- what an upload's call lost
pub lost_Answers : (layout : Layout) (n : ℕ) (respond : Side → SideResponse) (lost : Lost) (handed : Handed) (a b : FlashState) → lost.state.layout ≡ layout
    → Broken lost.state.layout lost.fault handed → Moved layout (upload_spots layout) n (steps_by respond) (upload_fault_end lost.fault) a b
    → IfSome a.bytes (SideReadable layout) → Caused layout n lost.fault a.bytes → NoRefusal layout respond a.bytes → Answers layout n respond handed a b
lost_Answers layout n respond lost handed a b e broken m r c t =
    broken_off layout n respond handed lost.fault a b (subst (λ (l : Layout). Broken l lost.fault handed) e broken)
    (Moved-wider layout (mount_spots layout) (upload_spots layout) n (steps_by respond) (upload_fault_end lost.fault) a b (upload_covers layout) m) r c t

tells_said : (layout : Layout) (respond : Side → SideResponse) (reply : Reply) (s : Said) (x : Option (List ℕ)) → said_of reply ≡ s
    → IfSome x (λ held. (side : Side) → SideStands layout side held → s ≡ (respond side).reply) → Tells layout respond x reply
tells_said layout respond reply s None e f = tt
tells_said layout respond reply s (Some u) e f = λ side stands. e ∙ f side stands

-- a call that went through, and its reply
pub call_done : (layout : Layout) (n : ℕ) (respond : Side → SideResponse) (s : Said) (m : Mounted) (k : Known) (reply : Reply) (handed : Handed) (a b : FlashState)
    → known_mounted m ≡ k → said_of reply ≡ s → handed ≡ record { held = helds.Mounted m; result = Ok reply } → k.layout ≡ layout
    → Done layout (upload_spots layout) n (steps_by respond) a b → IfSome b.bytes (Says k)
    → IfSome a.bytes (λ held. (side : Side) → SideStands layout side held → s ≡ (respond side).reply) → Answers layout n respond handed a b
call_done layout n respond s m k reply handed a b e r h l done says tells =
    let wide = Done-wider layout (mount_spots layout) (upload_spots layout) n (steps_by respond) a b (upload_covers layout) done in
    let here : Answers layout n respond (record { held = helds.Mounted m; result = Ok reply }) a b = record {
      moved = Done-is layout (mount_spots layout) n (steps_by respond) a b wide;
      done = wide;
      said = tells_said layout respond reply s a.bytes r tells;
      says = subst (λ (x : Known). IfSome b.bytes (Says x)) (sym e) says;
      layout_kept = ap (λ (x : Known). x.layout) e ∙ l;
      mounted = refl;
      caused = tt;
      tried = tt;
    } in
    subst (λ (x : Handed). Answers layout n respond x a b) (sym h) here

-- what a chunk stored
pub part_stored : (layout : Layout) (n size unit : ℕ) (bytes : List ℕ) (chunked : Chunked) (m : Mounted) (reply : Reply) (handed : Handed) (a b : FlashState)
    → known_mounted m ≡ known_chunked chunked → said_of reply ≡ chunk_said size chunked → handed ≡ record { held = helds.Mounted m; result = Ok reply } → (known_chunked chunked).layout ≡ layout
    → Done layout (upload_spots layout) n (steps_by (parting unit bytes)) a b → IfSome b.bytes (Says (known_chunked chunked))
    → IfSome a.bytes (λ held. (side : Side) → SideStands layout side held → chunk_said size chunked ≡ (part_of unit bytes side.upload).reply) → Answers layout n (parting unit bytes) handed a b
part_stored layout n size unit bytes chunked m reply handed a b k r h l done says s =
    call_done layout n (parting unit bytes) (chunk_said size chunked) m (known_chunked chunked) reply handed a b k r h l done says s

-- Beginning anew.

abbrev pub beginning : (unit : ℕ) → Announcement → List ℕ → Side → SideResponse
beginning unit a bytes side = begins unit a bytes

begun_is : (unit : ℕ) (a : Announcement) (bytes : List ℕ) → length bytes ≤ a.length → begins unit a bytes ≡ side_responds (takes_part unit a [] bytes).reply (Choose a ∷ (takes_part unit a [] bytes).steps)
begun_is unit a bytes le =
    let b : nat_lt a.length (length bytes) ≡ false = grind (arith, nat_tests, le) in
    ap (λ (x : Bool). if x then refuses_part PAST_UPLOAD_END else side_responds (takes_part unit a [] bytes).reply (Choose a ∷ (takes_part unit a [] bytes).steps)) b

begun_not : (unit : ℕ) (a : Announcement) (bytes : List ℕ) → a.length < length bytes → begins unit a bytes ≡ offers (said.group_error 1 31)
begun_not unit a bytes lt =
    let b : nat_lt a.length (length bytes) ≡ true = grind (arith, nat_tests, lt) in
    ap (λ (x : Bool). if x then refuses_part PAST_UPLOAD_END else side_responds (takes_part unit a [] bytes).reply (Choose a ∷ (takes_part unit a [] bytes).steps)) b

pub begin_refused : OneSide → (m : Mounted) (a : Announcement) (unit : ℕ) (bytes : List ℕ) (handed : Handed) (x : FlashState) → a.length < length bytes
    → handed ≡ record { held = helds.Mounted m; result = Ok (replied.GroupError 1 31) } → IfSome x.bytes (Says (known_mounted m)) → Answers (known_mounted m).layout 3 (beginning unit a bytes) handed x x
begin_refused one m a unit bytes handed x lt h says =
    answered one m 3 (beginning unit a bytes) (replied.GroupError 1 31) handed x h says (λ held s. record { plain = λ side stands. begun_not unit a bytes lt })

same_begun : (layout : Layout) (unit : ℕ) (a : Announcement) (bytes : List ℕ) (x : Option (List ℕ)) → length bytes ≤ a.length
    → IfSome x (Same layout (responds_after (one_step (Choose a)) (parting unit bytes)) (beginning unit a bytes))
same_begun layout unit a bytes None le = tt
same_begun layout unit a bytes (Some u) le = record { same = λ side stands. sym (begun_is unit a bytes le) }

pub begin_chosen : (layout l : Layout) (a : Announcement) (bytes : List ℕ) (handed : Handed) (x y z : FlashState) → length bytes ≤ a.length → l ≡ layout
    → Done layout (upload_spots layout) 1 (one_step (Choose a)) x y → Answers l 2 (parting (geometry_of l).unit bytes) handed y z
    → Answers layout 3 (beginning (geometry_of layout).unit a bytes) handed x z
begin_chosen layout l a bytes handed x y z le e done answers =
    let unit = (geometry_of layout).unit in
    let here : Answers layout 2 (parting unit bytes) handed y z = subst (λ (k : Layout). Answers k 2 (parting (geometry_of k).unit bytes) handed y z) e answers in
    answers_as layout 3 (responds_after (one_step (Choose a)) (parting unit bytes)) (beginning unit a bytes) handed x z (same_begun layout unit a bytes x.bytes le)
    (answers_after layout 1 2 (one_step (Choose a)) (parting unit bytes) handed x y z
    (Done-wider layout (mount_spots layout) (upload_spots layout) 1 (one_step (Choose a)) x y (upload_covers layout) done) here)

begun_fine : (layout : Layout) (unit : ℕ) (a : Announcement) (bytes : List ℕ) (x : Option (List ℕ)) → nat_lt a.length (0 + length bytes) ≡ false
    → NoRefusal layout (responds_after (one_step (Choose a)) (parting unit bytes)) x
begun_fine layout unit a bytes None e = tt
begun_fine layout unit a bytes (Some u) e = λ side stands. takes_fine unit a [] bytes e

-- the choice was broken off
pub begin_lost : (layout : Layout) (a : Announcement) (bytes : List ℕ) (lost : Lost) (handed : Handed) (x y : FlashState) → length bytes ≤ a.length → lost.state.layout ≡ layout
    → Broken lost.state.layout lost.fault handed → Moved layout (upload_spots layout) 1 (one_step (Choose a)) (upload_fault_end lost.fault) x y
    → IfSome x.bytes (SideReadable layout) → Caused layout 3 lost.fault x.bytes → Answers layout 3 (beginning (geometry_of layout).unit a bytes) handed x y
begin_lost layout a bytes lost handed x y le e broken m r c =
    let unit = (geometry_of layout).unit in
    let s = responds_after (one_step (Choose a)) (parting unit bytes) in
    let b : nat_lt a.length (0 + length bytes) ≡ false = grind (arith, nat_tests, le) in
    answers_as layout 3 s (beginning unit a bytes) handed x y (same_begun layout unit a bytes x.bytes le)
    (lost_Answers layout 3 s lost handed x y e broken (Moved-first layout (upload_spots layout) 1 3 (one_step (Choose a)) (steps_by (parting unit bytes)) (upload_fault_end lost.fault) x y (omega arith) m) r c (begun_fine layout unit a bytes x.bytes b))

-- Starts and parts over a mounted side.

abbrev pub starts : (unit : ℕ) → Announcement → List ℕ → Side → SideResponse
starts unit a bytes side = start_at unit a bytes side.pending side.upload

-- some bytes are held
pub start_wanted : OneSide → (m : Mounted) (b a : Announcement) (o unit : ℕ) (bytes : List ℕ) (handed : Handed) (x : FlashState) → (known_mounted m).upload ≡ Some (record { announcement = b; offset = o }) → is_resumed_by b a ≡ true → 0 < o
    → handed ≡ record { held = helds.Mounted m; result = Ok (replied.Offset o None) } → IfSome x.bytes (Says (known_mounted m)) → Answers (known_mounted m).layout 3 (starts unit a bytes) handed x x
start_wanted one m b a o unit bytes handed x e r lt h says =
    answered one m 3 (starts unit a bytes) (replied.Offset o None) handed x h says
    (λ held s. plain_upload one (known_mounted m) b o (start_at unit a bytes) (said.offset o None) held e (λ p u _ is. start_held unit a bytes b o p u r lt is) s)

-- slot 1 is pending
pub start_refused : OneSide → (m : Mounted) (b a : Announcement) (o unit : ℕ) (mark : Mark) (bytes : List ℕ) (handed : Handed) (x : FlashState) → (known_mounted m).upload ≡ Some (record { announcement = b; offset = o })
    → (known_mounted m).pending ≡ Some mark → is_resumed_by b a ≡ false
    → handed ≡ record { held = helds.Mounted m; result = Ok (replied.GroupError 1 9) } → IfSome x.bytes (Says (known_mounted m)) → Answers (known_mounted m).layout 3 (starts unit a bytes) handed x x
start_refused one m b a o unit mark bytes handed x e busy r h says =
    answered one m 3 (starts unit a bytes) (replied.GroupError 1 9) handed x h says
    (λ held s. plain_upload one (known_mounted m) b o (start_at unit a bytes) (said.group_error 1 9) held e (λ p u k is. start_busy unit a bytes b o p mark u r (sym busy ∙ k) is) s)

-- another upload takes the place of this one
pub start_anew : OneSide → (known : Known) (b a : Announcement) (o unit : ℕ) (bytes : List ℕ) (handed : Handed) (x y : FlashState) → known.upload ≡ Some (record { announcement = b; offset = o }) → known.pending ≡ None → is_resumed_by b a ≡ false
    → IfSome x.bytes (Says known) → Answers known.layout 3 (beginning unit a bytes) handed x y → Answers known.layout 3 (starts unit a bytes) handed x y
start_anew one known b a o unit bytes handed x y e free r says answers =
    answers_as known.layout 3 (beginning unit a bytes) (starts unit a bytes) handed x y
    (same_upload one known b o (λ _ _. begins unit a bytes) (start_at unit a bytes) x.bytes e (λ p u k is. sym (start_new unit a bytes b o p u r (sym free ∙ k) is)) says) answers

pub start_idle : OneSide → (known : Known) (a : Announcement) (unit : ℕ) (bytes : List ℕ) (handed : Handed) (x y : FlashState) → known.upload ≡ None → known.pending ≡ None
    → IfSome x.bytes (Says known) → Answers known.layout 3 (beginning unit a bytes) handed x y → Answers known.layout 3 (starts unit a bytes) handed x y
start_idle one known a unit bytes handed x y e free says answers =
    answers_as known.layout 3 (beginning unit a bytes) (starts unit a bytes) handed x y
    (same_none one known (λ _ _. begins unit a bytes) (start_at unit a bytes) x.bytes e (λ p k. ap (new_start unit a bytes) (sym free ∙ k)) says) answers

-- nothing is held yet
pub start_again : OneSide → (known : Known) (b a : Announcement) (o unit : ℕ) (bytes : List ℕ) (handed : Handed) (x y : FlashState) → known.upload ≡ Some (record { announcement = b; offset = o }) → is_resumed_by b a ≡ true → o ≡ 0
    → IfSome x.bytes (Says known) → Answers known.layout 2 (parting unit bytes) handed x y → Answers known.layout 3 (starts unit a bytes) handed x y
start_again one known b a o unit bytes handed x y e r z says answers =
    answers_as known.layout 3 (parting unit bytes) (starts unit a bytes) handed x y
    (same_upload one known b o (λ _ up. part_of unit bytes up) (start_at unit a bytes) x.bytes e (λ p u k is. sym (start_first unit a bytes b o p u r z is)) says)
    (answers_more known.layout 2 3 (parting unit bytes) handed x y (omega arith) answers)

abbrev pub parts : (unit off : ℕ) → Option (List ℕ) → List ℕ → Side → SideResponse
parts unit off tag bytes side = part_at unit off tag bytes side.upload

pub part_idle : OneSide → (m : Mounted) (unit off : ℕ) (tag : Option (List ℕ)) (bytes : List ℕ) (handed : Handed) (x : FlashState) → (known_mounted m).upload ≡ None
    → handed ≡ record { held = helds.Mounted m; result = Ok (replied.Offset 0 None) } → IfSome x.bytes (Says (known_mounted m)) → Answers (known_mounted m).layout 2 (parts unit off tag bytes) handed x x
part_idle one m unit off tag bytes handed x e h says =
    answered one m 2 (parts unit off tag bytes) (replied.Offset 0 None) handed x h says (λ held s. plain_none one (known_mounted m) (λ _ up. part_at unit off tag bytes up) (said.offset 0 None) held e (λ _ _. refl) s)

-- another offset, or another tag
pub part_other : OneSide → (m : Mounted) (a : Announcement) (o unit off : ℕ) (tag : Option (List ℕ)) (bytes : List ℕ) (handed : Handed) (x : FlashState) → (known_mounted m).upload ≡ Some (record { announcement = a; offset = o })
    → ((off == o) && is_tagged_by tag a.digest) ≡ false
    → handed ≡ record { held = helds.Mounted m; result = Ok (replied.Offset o None) } → IfSome x.bytes (Says (known_mounted m)) → Answers (known_mounted m).layout 2 (parts unit off tag bytes) handed x x
part_other one m a o unit off tag bytes handed x e ne h says =
    answered one m 2 (parts unit off tag bytes) (replied.Offset o None) handed x h says
    (λ held s. plain_upload one (known_mounted m) a o (λ _ up. part_at unit off tag bytes up) (said.offset o None) held e (λ _ u _ is. at_other unit off tag bytes a o u ne is) s)

pub part_here : OneSide → (known : Known) (a : Announcement) (o unit off : ℕ) (tag : Option (List ℕ)) (bytes : List ℕ) (handed : Handed) (x y : FlashState) → known.upload ≡ Some (record { announcement = a; offset = o })
    → ((off == o) && is_tagged_by tag a.digest) ≡ true
    → IfSome x.bytes (Says known) → Answers known.layout 2 (parting unit bytes) handed x y → Answers known.layout 2 (parts unit off tag bytes) handed x y
part_here one known a o unit off tag bytes handed x y e is says answers =
    answers_as known.layout 2 (parting unit bytes) (parts unit off tag bytes) handed x y
    (same_upload one known a o (λ _ up. part_of unit bytes up) (λ _ up. part_at unit off tag bytes up) x.bytes e (λ _ u _ i. sym (at_here unit off tag bytes a o u is i)) says) answers

pub part_more : OneSide → (m : Mounted) (a : Announcement) (o unit off : ℕ) (tag : Option (List ℕ)) (bytes : List ℕ) (handed : Handed) (x : FlashState) → (known_mounted m).upload ≡ Some (record { announcement = a; offset = o })
    → ((off == o) && is_tagged_by tag a.digest) ≡ true → a.length ≡ o → 0 < length bytes
    → handed ≡ record { held = helds.Mounted m; result = Ok (replied.GroupError 1 31) } → IfSome x.bytes (Says (known_mounted m)) → Answers (known_mounted m).layout 2 (parts unit off tag bytes) handed x x
part_more one m a o unit off tag bytes handed x e is full lt h says =
    part_here one (known_mounted m) a o unit off tag bytes handed x x e is says (part_refused one m a o unit bytes handed x e (omega arith) h says)

-- at the end or not: no bytes, or not at the wanted offset
pub part_end : OneSide → (m : Mounted) (a : Announcement) (o unit off : ℕ) (tag : Option (List ℕ)) (bytes : List ℕ) (handed : Handed) (x : FlashState) → (known_mounted m).upload ≡ Some (record { announcement = a; offset = o }) → a.length ≡ o
    → (((off == o) && is_tagged_by tag a.digest) ≡ true → length bytes ≡ 0)
    → handed ≡ record { held = helds.Mounted m; result = Ok (replied.Offset o None) } → IfSome x.bytes (Says (known_mounted m)) → Answers (known_mounted m).layout 2 (parts unit off tag bytes) handed x x
part_end one m a o unit off tag bytes handed x e full none h says =
    answered one m 2 (parts unit off tag bytes) (replied.Offset o None) handed x h says
    (λ held s. plain_upload one (known_mounted m) a o (λ _ up. part_at unit off tag bytes up) (said.offset o None) held e (λ _ u _ is. go ((off == o) && is_tagged_by tag a.digest) refl u is) s)
  where
    go : (t : Bool) → ((off == o) && is_tagged_by tag a.digest) ≡ t → (u : Upload) → Is a o u → part_at unit off tag bytes (Some u) ≡ offers (said.offset o None)
    go true same u is = at_here unit off tag bytes a o u same is ∙ ap (λ (xs : List ℕ). part_of unit xs (Some u)) (nil_of bytes (none same)) ∙ empty_part unit a o u full is
    go false other u is = at_other unit off tag bytes a o u other is

pub start_for : (mounted m : Mounted) (a : Announcement) (bytes : List ℕ) (handed : Handed) (x y : FlashState) → mounted ≡ m
    → Answers (known_mounted m).layout 3 (starts (geometry_of (known_mounted m).layout).unit a bytes) handed x y
    → Answers (known_mounted mounted).layout 3 (starts (geometry_of (known_mounted mounted).layout).unit a bytes) handed x y
start_for mounted m a bytes handed x y e f = subst (λ (k : Mounted). Answers (known_mounted k).layout 3 (starts (geometry_of (known_mounted k).layout).unit a bytes) handed x y) (sym e) f

pub part_for : (mounted m : Mounted) (off : ℕ) (tag : Option (List ℕ)) (bytes : List ℕ) (handed : Handed) (x y : FlashState) → mounted ≡ m
    → Answers (known_mounted m).layout 2 (parts (geometry_of (known_mounted m).layout).unit off tag bytes) handed x y
    → Answers (known_mounted mounted).layout 2 (parts (geometry_of (known_mounted mounted).layout).unit off tag bytes) handed x y
part_for mounted m off tag bytes handed x y e f = subst (λ (k : Mounted). Answers (known_mounted k).layout 2 (parts (geometry_of (known_mounted k).layout).unit off tag bytes) handed x y) (sym e) f

pub says_for : (mounted m : Mounted) (x : Option (List ℕ)) → mounted ≡ m → IfSome x (Says (known_mounted mounted)) → IfSome x (Says (known_mounted m))
says_for mounted m x e f = subst (λ (k : Mounted). IfSome x (Says (known_mounted k))) e f

pub chunk_least : (unit : ℕ) (u : Announced) (bytes : List ℕ) → chunk_records unit u bytes ≤ 2
chunk_least unit u bytes = by_two (length (kept unit u.announcement.length u.offset bytes) == 0) ((u.offset + length bytes == u.announcement.length) && is_some u.announcement.digest)
  where
    by_two : (b c : Bool) → (if b then 0 else if c then 2 else 1) ≤ 2
    by_two true c = omega arith
    by_two false true = omega arith
    by_two false false = omega arith
