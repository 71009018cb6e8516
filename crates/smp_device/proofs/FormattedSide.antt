-- An image is put into its primary slot on a flash of FF, and its record is made.
use Rattle.std.proofs.Common.{◌≡◌, inl, inr, ℕ, ◌+◌, ◌-◌, ◌%◌, ◌≤◌, Bool, false, Option, Some, None, List, [], ◌∷◌, ◌++◌, length, take, replicate, refl, sym, ◌∙◌, ap, subst, arith, append_assoc, length-append}
use Rattle.std.proofs.lemmas.List.{take_at, length-replicate, replicate-append-replicate}
use Rattle.std.specs.Prelude.{IfSome, IsSome}
use Rattle.std.specs.Str.{bytes_eq}
use Rattle.smp_flash.specs.Area.{area, blank, spot, AreBytes, Clear, Keeps, Told}
use Rattle.smp_flash.specs.Calls.{Calls}
use Rattle.smp_flash.specs.Geometry.{slot_size, tail, IsPage, Regular}
use Rattle.smp_flash.specs.Layout.{geometry_of, image_of, slot_of, progress_of, bank_spots}
use Rattle.smp_flash.specs.State.{FlashState, End}
use Rattle.smp_flash.specs.State.End.{Went}
use Rattle.smp_flash.specs.declared.layout.Layout.{Layout}
use Rattle.smp_flash.proofs.Areas.{area-add, blank-add, blank_within}
use Rattle.smp_flash.proofs.Passing.{Covers, Covers-trans, Covers-within, Calls-after, Calls-wider}
use Rattle.smp_flash.proofs.Places.{tail_last}
use Rattle.smp_flash.proofs.Sizes.{each_page, regular}
use Rattle.smp_flash.proofs.Telling.{Told-after, Told-four, Told-new}
use Rattle.smp_gate.specs.Newest.{Fresh}
use Rattle.smp_model.specs.declared.image.ImageInfo.{ImageInfo}
use Rattle.smp_model.specs.Image.{good_image}
use Rattle.smp_model.specs.ImageFaults.{StaysGood}
use Rattle.smp_progress.specs.Cells.{HasRecord}
use Rattle.smp_progress.specs.State.{ProgressState, ProgressSays}
use Rattle.smp_progress.specs.declared.record.Record.{Record}
use Rattle.smp_progress.specs.declared.record.Record.TheVariants as records
use Rattle.smp_slot.specs.Laid.{Laid}
use Rattle.smp_slot.specs.Marks.{is_flagged, is_marked, mark_by, trailer_magic}
use Rattle.smp_upload.specs.Bytes.{SideStands, active_in, confirmed_in, pending_in}
use Rattle.smp_upload.proofs.Apartness.{active_by, confirmed_by}
use Rattle.smp_device.specs.Formatting.{Fits, IsErased, formatted_side, primary_spots, room_of}
use Rattle.smp_device.specs.Uploads.{sizes_of}
use Rattle.smp_device.proofs.Parting.{Covers-left, Covers-right}

-- a page less than whole pages are whole pages
record Less (page : ℕ) : Type 0 where
  pub whole : (s : ℕ) → s % page ≡ 0 → page ≤ s → (s - page) % page ≡ 0

less : (page : ℕ) → IsPage page → Less page
less page is = each_page Less
    (record { whole = λ s z le. omega arith })
    (record { whole = λ s z le. omega arith })
    (record { whole = λ s z le. omega arith })
    (record { whole = λ s z le. omega arith })
    page is

page_least : (page : ℕ) → IsPage page → 512 ≤ page
page_least page is = each_page (λ k. 512 ≤ k) (omega arith) (omega arith) (omega arith) (omega arith) page is

-- an image that has room has it to its page's end
put_within : (layout : Layout) (n : ℕ) → n ≤ room_of (geometry_of layout) → n + tail (geometry_of layout).page (0 + n) ≤ room_of (geometry_of layout)
put_within layout n le =
    let g = geometry_of layout in
    let r : Regular g = regular g layout.lawful in
    let least = r.slot_least in
    let same : n ≡ 0 + n = omega arith in
    subst (λ (k : ℕ). n + tail g.page k ≤ room_of g) same (tail_last g.page n (room_of g) r.is_page ((less g.page r.is_page).whole (slot_size g) r.slot_whole (omega (arith, least))) le)

-- the operations of a put
put_covered : (layout : Layout) (n : ℕ) → n ≤ room_of (geometry_of layout)
    → Covers (primary_spots (geometry_of layout) (image_of layout)) (spot ((slot_of layout 0).at + 0) (n + tail (geometry_of layout).page (0 + n)))
put_covered layout n le =
    let s = slot_of layout 0 in
    let w = put_within layout n le in
    Covers-trans (primary_spots (geometry_of layout) (image_of layout)) (spot s.at s.length) (spot (s.at + 0) (n + tail (geometry_of layout).page (0 + n)))
    (Covers-left (spot s.at s.length) (bank_spots (progress_of layout)))
    (Covers-within (s.at + 0) (n + tail (geometry_of layout).page (0 + n)) s.at s.length (omega arith) (omega (arith, w)))

pub put_calls : (layout : Layout) (page at n : ℕ) (ends end : End) (a b : FlashState) → (geometry_of layout).page ≡ page → at ≡ (slot_of layout 0).at → n ≤ room_of (geometry_of layout) → ends ≡ end
    → Calls (spot (at + 0) (n + tail page (0 + n))) end a b → Calls (primary_spots (geometry_of layout) (image_of layout)) ends a b
put_calls layout page at n ends end a b pages is le same calls =
    let w = primary_spots (geometry_of layout) (image_of layout) in
    let covers : Covers w (spot (at + 0) (n + tail page (0 + n))) =
    subst (λ (k : ℕ). Covers w (spot (k + 0) (n + tail page (0 + n)))) (sym is) (subst (λ (k : ℕ). Covers w (spot ((slot_of layout 0).at + 0) (n + tail k (0 + n)))) pages (put_covered layout n le)) in
    subst (λ (e : End). Calls w e a b) (sym same) (Calls-wider w (spot (at + 0) (n + tail page (0 + n))) end a b covers calls)

-- What the put leaves of the FF around it.

-- the progress bank stays FF
fresh_after : (layout : Layout) (at n : ℕ) (u v : List ℕ) → at ≡ (slot_of layout 0).at → n ≤ room_of (geometry_of layout) → IsErased layout u
    → Keeps (spot (at + 0) (n + tail (geometry_of layout).page (0 + n))) u v → Fresh (progress_of layout) v
fresh_after layout at n u v is le e k =
    let w = put_within layout n le in
    record {
      first = k.apart (progress_of layout).first.at 4096 (inr (omega (arith, is, w)), tt) ∙ e.progress.first;
      second = k.apart (progress_of layout).second.at 4096 (inr (omega (arith, is, w)), tt) ∙ e.progress.second;
    }

pub told_fresh : (layout : Layout) (page at n : ℕ) (x y : Option (List ℕ)) → (geometry_of layout).page ≡ page → at ≡ (slot_of layout 0).at → n ≤ room_of (geometry_of layout) → IfSome x (IsErased layout)
    → Told (Keeps (spot (at + 0) (n + tail page (0 + n)))) x y → IfSome y (Fresh (progress_of layout))
told_fresh layout page at n x y pages is le e k =
    Told-after (IsErased layout) (Keeps (spot (at + 0) (n + tail (geometry_of layout).page (0 + n)))) (Fresh (progress_of layout)) x y
    (λ u v f h. fresh_after layout at n u v is le f h) e (subst (λ (m : ℕ). Told (Keeps (spot (at + 0) (n + tail m (0 + n)))) x y) (sym pages) k)

-- The side.

-- what runs is the image, and FF behind it
active_is : (room n : ℕ) (image : List ℕ) → n ≡ length image → n ≤ room → take room (image ++ replicate room 255) ≡ image ++ replicate (room - n) 255
active_is room n image is le =
    let parts : replicate room 255 ≡ replicate (room - n) 255 ++ replicate n 255 = sym (replicate-append-replicate (room - n) n 255 ∙ ap (λ (k : ℕ). replicate k 255) (omega arith)) in
    let joined : image ++ replicate room 255 ≡ (image ++ replicate (room - n) 255) ++ replicate n 255 = ap (λ (t : List ℕ). image ++ t) parts ∙ sym (append_assoc image (replicate (room - n) 255) (replicate n 255)) in
    let long : length (image ++ replicate (room - n) 255) ≡ room = omega (arith, is, length-append image (replicate (room - n) 255), length-replicate {A = ℕ} (room - n) 255) in
    ap (take room) joined ∙ take_at (image ++ replicate (room - n) 255) (replicate n 255) room long

-- it stands there
active_stands : (layout : Layout) (at n : ℕ) (image u v : List ℕ) → at ≡ (slot_of layout 0).at → n ≡ length image → n ≤ room_of (geometry_of layout) → IsErased layout u
    → Laid (at + 0) (tail (geometry_of layout).page (0 + n)) image u v → active_in layout v ≡ image ++ replicate (room_of (geometry_of layout) - n) 255
active_stands layout at n image u v is long le e laid =
    let g = geometry_of layout in
    let s = slot_of layout 0 in
    let room = room_of g in
    let t = tail g.page (0 + n) in
    let w = put_within layout n le in
    let behind : area (s.at + n + t) (room - n - t) v ≡ blank (room - n - t) =
    (laid.keeps.apart (s.at + n + t) (room - n - t) (inr (omega (arith, is, long)), tt)
    ∙ ap (λ (k : ℕ). area k (room - n - t) u) (the_same (s.at + n + t) (s.at + (n + t)) (omega arith))
    ∙ blank_within s.at s.length (n + t) (room - n - t) u (omega (arith, w)) e.slot_0) in
    let page_end : area (s.at + n) t v ≡ blank t = subst (λ (k : ℕ). area k t v ≡ blank t) (omega (arith, is, long)) laid.clean in
    let rest : area (s.at + n) (t + (room - n - t)) v ≡ blank (t + (room - n - t)) = blank-add (s.at + n) t (room - n - t) v page_end behind in
    let front : area s.at n v ≡ image = subst (λ (k : ℕ). area s.at k v ≡ image) (sym long) (subst (λ (k : ℕ). area k (length image) v ≡ image) (omega (arith, is)) laid.holds) in
    ap (λ (k : ℕ). area s.at k v) (the_same room (n + (t + (room - n - t))) (omega (arith, w)))
    ∙ area-add s.at n (t + (room - n - t)) v
    ∙ (λ i. front i ++ rest i)
    ∙ ap (λ (k : ℕ). image ++ replicate k 255) (the_same (t + (room - n - t)) (room - n) (omega (arith, w)))
  where
    the_same : (a b : ℕ) → a ≡ b → a ≡ b
    the_same a b x = x

there_is : (o : Option ImageInfo) → IsSome o → (i : ImageInfo) × (o ≡ Some i)
there_is None is = absurd (cc is)
there_is (Some i) is = (i, refl)

good_still : StaysGood → (image more : List ℕ) → AreBytes image → IsSome (good_image image) → IsSome (good_image (image ++ more))
good_still stays image more bytes good =
    let k = there_is (good_image image) good in
    subst IsSome (sym (stays image more k.0 bytes k.1)) refl

-- it isn't confirmed
unconfirmed : (layout : Layout) (at n : ℕ) (image u v : List ℕ) → at ≡ (slot_of layout 0).at → n ≡ length image → n ≤ room_of (geometry_of layout) → IsErased layout u
    → Laid (at + 0) (tail (geometry_of layout).page (0 + n)) image u v → false ≡ confirmed_in layout v
unconfirmed layout at n image u v is long le e laid =
    let g = geometry_of layout in
    let s = slot_of layout 0 in
    let w = put_within layout n le in
    let r : Regular g = regular g layout.lawful in
    let least = r.slot_least in
    let large : 512 ≤ g.page = page_least g.page r.is_page in
    let same : area (s.at + s.length - 24) 1 v ≡ blank 1 =
    (laid.keeps.apart (s.at + s.length - 24) 1 (inr (omega (arith, is, long, w, least, large)), tt)
    ∙ subst (λ (k : ℕ). area k 1 u ≡ blank 1) (omega (arith, least, large)) (blank_within s.at s.length (s.length - 24) 1 u (omega (arith, least, large)) e.slot_0)) in
    sym (ap (λ (x : List ℕ). bytes_eq x (1 ∷ [])) same)

-- nothing is pending
unmarked : (layout : Layout) (v : List ℕ) → area (slot_of layout 1).at (slot_of layout 1).length v ≡ blank (slot_of layout 1).length → None ≡ pending_in layout v
unmarked layout v e =
    let g = geometry_of layout in
    let s = slot_of layout 1 in
    let r : Regular g = regular g layout.lawful in
    let least = r.slot_least in
    let some = page_least g.page r.is_page in
    let same : area (s.at + s.length - 16) 16 v ≡ blank 16 = subst (λ (k : ℕ). area k 16 v ≡ blank 16) (omega (arith, least, some)) (blank_within s.at s.length (s.length - 16) 16 v (omega (arith, least, some)) e) in
    let no_magic : is_marked s v ≡ false = ap (λ (x : List ℕ). bytes_eq x trailer_magic) same in
    sym (ap (λ (m : Bool). mark_by m (is_flagged s v)) no_magic)

-- The side, when its record was made.
side_made : StaysGood → (layout : Layout) (at n : ℕ) (image u v w : List ℕ) → at ≡ (slot_of layout 0).at → n ≡ length image → AreBytes image → Fits (room_of (geometry_of layout)) image → IsErased layout u
    → Laid (at + 0) (tail (geometry_of layout).page (0 + n)) image u v → Keeps (bank_spots (progress_of layout)) v w → HasRecord layout records.None w
    → SideStands layout (formatted_side (sizes_of (geometry_of layout)) image) w
side_made stays layout at n image u v w is long bytes fits e laid k has =
    let g = geometry_of layout in
    let room = room_of g in
    let le : n ≤ room = omega (arith, long, fits.short) in
    let r : Regular g = regular g layout.lawful in
    let least = r.slot_least in
    let large = page_least g.page r.is_page in
    let last = put_within layout n le in
    let stands : take room (image ++ replicate room 255) ≡ image ++ replicate (room - n) 255 = active_is room n image long le in
    let clear_0 : Clear (bank_spots (progress_of layout)) (slot_of layout 0).at (slot_of layout 0).length = (inl (omega arith), (inl (omega arith), tt)) in
    let slot_1 : area (slot_of layout 1).at (slot_of layout 1).length w ≡ blank (slot_of layout 1).length =
    (k.apart (slot_of layout 1).at (slot_of layout 1).length (inl (omega arith), (inl (omega arith), tt))
    ∙ laid.keeps.apart (slot_of layout 1).at (slot_of layout 1).length (inr (omega (arith, is, long, last)), tt) ∙ e.slot_1) in
    record {
      rescue = false;
      stands = record {
        active = stands ∙ sym (active_by layout (bank_spots (progress_of layout)) v w clear_0 k ∙ active_stands layout at n image u v is long le e laid);
        runs = subst (λ (b : List ℕ). IsSome (good_image b)) (sym stands) (good_still stays image (replicate (room - n) 255) bytes fits.good);
        confirmed = unconfirmed layout at n image u v is long le e laid ∙ sym (confirmed_by layout (bank_spots (progress_of layout)) v w clear_0 k);
        entry = has;
        accepts = tt;
        pending = unmarked layout w slot_1;
        good = tt;
      };
    }

-- what the value says of the record
says_none : (layout : Layout) (p : ProgressState) (w : List ℕ) → p.layout ≡ layout → p.entry ≡ records.None → ProgressSays p w → HasRecord layout records.None w
says_none layout p w l e s = subst (λ (m : Layout). HasRecord m records.None w) l (subst (λ (r : Record). HasRecord p.layout r w) e s.holds)

pub told_side : StaysGood → (layout : Layout) (p : ProgressState) (page at n : ℕ) (image : List ℕ) (x y z : Option (List ℕ)) → (geometry_of layout).page ≡ page → p.layout ≡ layout → p.entry ≡ records.None → at ≡ (slot_of layout 0).at → n ≡ length image
    → AreBytes image → Fits (room_of (geometry_of layout)) image → IfSome x (IsErased layout) → Told (Laid (at + 0) (tail page (0 + n)) image) x y → Told (Keeps (bank_spots (progress_of layout))) y z
    → IfSome z (ProgressSays p) → IfSome z (SideStands layout (formatted_side (sizes_of (geometry_of layout)) image))
told_side stays layout p page at n image x y z pages l none is long bytes fits e laid k says =
    let side = formatted_side (sizes_of (geometry_of layout)) image in
    Told-new (λ u w. SideStands layout side w) (SideStands layout side) x z (λ u w s. s)
    (Told-four (IsErased layout) (Laid (at + 0) (tail (geometry_of layout).page (0 + n)) image) (Keeps (bank_spots (progress_of layout))) (ProgressSays p) (λ u w. SideStands layout side w) x y z
    (λ u v w f g h s. side_made stays layout at n image u v w is long bytes fits f g h (says_none layout p w l none s)) e (subst (λ (m : ℕ). Told (Laid (at + 0) (tail m (0 + n)) image) x y) (sym pages) laid) k says)

-- the put went through, and the making ended so
pub made_calls : (layout : Layout) (page at n : ℕ) (ends end : End) (a b c : FlashState) → (geometry_of layout).page ≡ page → at ≡ (slot_of layout 0).at → n ≤ room_of (geometry_of layout) → ends ≡ end
    → Calls (spot (at + 0) (n + tail page (0 + n))) Went a b → Calls (bank_spots (progress_of layout)) end b c → Calls (primary_spots (geometry_of layout) (image_of layout)) ends a c
made_calls layout page at n ends end a b c pages is le same put make =
    let spots = primary_spots (geometry_of layout) (image_of layout) in
    let s = slot_of layout 0 in
    subst (λ (e : End). Calls spots e a c) (sym same)
    (Calls-after spots end a b c (put_calls layout page at n Went Went a b pages is le refl put)
    (Calls-wider spots (bank_spots (progress_of layout)) end b c (Covers-right (spot s.at s.length) (bank_spots (progress_of layout))) make))
