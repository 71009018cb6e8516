-- The records of a mount, by what was read.
use Rattle.std.proofs.Common.{◌≡◌, ℕ, ◌+◌, ◌<◌, ◌≤◌, Bool, true, false, Option, Some, None, List, length, refl, sym, ◌∙◌, ap, subst, arith, ◌&&◌, if◌then◌else◌}
use Rattle.std.specs.Prelude.{IfSome, IsTrue, nat_lt, not}
use Rattle.std.specs.Str.{bytes_eq}
use Rattle.std.proofs.lemmas.Slice.Eq.{bytes_eq-Decides}
use Rattle.std.proofs.lemmas.Bool.Decides.{nat_tests}
use Rattle.smp_flash.specs.Area.{area, blank, spot}
use Rattle.smp_flash.specs.Calls.{Calls}
use Rattle.smp_flash.specs.State.{FlashState, End}
use Rattle.smp_flash.proofs.Passing.{Calls-wider, Covers-within}
use Rattle.smp_flash.specs.Geometry.{slot_size, tail, Regular}
use Rattle.smp_flash.specs.Layout.{geometry_of, slot_of, upload_spots}
use Rattle.smp_flash.specs.declared.layout.Layout.{Layout}
use Rattle.smp_flash.proofs.Places.{tail_last}
use Rattle.smp_flash.proofs.Sizes.{regular}
use Rattle.smp_flash.proofs.Telling.{IfSome-map}
use Rattle.smp_model.specs.declared.device.Side.{Side}
use Rattle.smp_model.specs.declared.device.Upload.{Upload}
use Rattle.smp_model.specs.declared.upload.Announcement.{Announcement}
use Rattle.smp_model.specs.Uploads.{differs}
use Rattle.smp_progress.specs.State.{ProgressState}
use Rattle.smp_progress.specs.declared.record.Record.{Record}
use Rattle.smp_progress.specs.declared.record.Record.TheVariants as records
use Rattle.smp_upload.specs.Bytes.{CleanFrom, SideStandsAs, record_of}
use Rattle.smp_upload.specs.Needs.{MountNeeds, mount_records, is_unclean}
use Rattle.smp_upload.specs.Rescuing.{HeldAs, NeedsJust}
use Rattle.smp_upload.proofs.Parted.{incomplete_by}
use Rattle.smp_upload.proofs.Sides.{OneRecord, one_side}
use Rattle.smp_upload.proofs.Stored.{found}
use Rattle.smp_upload.proofs.Tellings.{if_both}

-- a mount of the same bytes needs the same records
abbrev rescue_in : Record → Bool
rescue_in records.None = false
rescue_in (records.Upload a o rescue) = rescue

records_same : (layout : Layout) (r s : Bool) (up : Option Upload) (bytes : List ℕ) → record_of r up ≡ record_of s up → mount_records layout r up bytes ≡ mount_records layout s up bytes
records_same layout r s None bytes e = refl
records_same layout r s (Some u) bytes e = ap (λ (b : Bool). mount_records layout b (Some u) bytes) (same_flag r s (ap rescue_in e))
  where
    same_flag : (r s : Bool) → rescue_in (records.Upload u.announcement (length u.accepted) r) ≡ rescue_in (records.Upload u.announcement (length u.accepted) s) → r ≡ s
    same_flag r s e = e

pub needs_once : OneRecord → (layout : Layout) (m n : ℕ) (bytes : List ℕ) → MountNeeds layout m bytes → MountNeeds layout n bytes → m ≡ n
needs_once one layout m n bytes a b =
    let side : a.side ≡ b.side = one_side one layout a.side b.side bytes (record { rescue = a.rescue; stands = a.stands }) (record { rescue = b.rescue; stands = b.stands }) in
    let st : SideStandsAs layout a.rescue b.side bytes = subst (λ (x : Side). SideStandsAs layout a.rescue x bytes) side a.stands in
    let rec : record_of a.rescue b.side.upload ≡ record_of b.rescue b.side.upload = one layout (record_of a.rescue b.side.upload) (record_of b.rescue b.side.upload) bytes st.entry b.stands.entry in
    a.needed ∙ ap (λ (x : Side). mount_records layout a.rescue x.upload bytes) side ∙ records_same layout a.rescue b.rescue b.side.upload bytes rec ∙ sym b.needed

-- the number is that of the side that is held
held_needs : OneRecord → (layout : Layout) (flag : Bool) (p : ProgressState) (a : Announcement) (o : ℕ) (bytes : List ℕ) (h : HeldAs layout flag p a o bytes) (m : ℕ) → MountNeeds layout m bytes → m ≡ mount_records layout flag h.side.upload bytes
held_needs one layout flag p a o bytes h m needs = needs_once one layout m (mount_records layout flag h.side.upload bytes) bytes needs (record { rescue = flag; side = h.side; stands = h.stands; needed = refl })

needs_rescue : OneRecord → (layout : Layout) (p : ProgressState) (a : Announcement) (o : ℕ) (bytes : List ℕ) → HeldAs layout true p a o bytes → NeedsJust layout 1 bytes
needs_rescue one layout p a o bytes h m needs =
    let up = found h.side.upload (record { announcement = a; offset = o }) h.upload in
    held_needs one layout true p a o bytes h m needs ∙ ap (λ (x : Option Upload). mount_records layout true x bytes) up.is

below_is : (m n : ℕ) → m < n → nat_lt m n ≡ true
below_is m n lt = grind (arith, nat_tests)

-- what stands behind the offset in its page
abbrev pub behind : Layout → ℕ → List ℕ → List ℕ
behind layout o bytes = area ((slot_of layout 1).at + o) (tail (geometry_of layout).page o) bytes

abbrev pub nothing : Layout → ℕ → List ℕ
nothing layout o = blank (tail (geometry_of layout).page o)

unclean_is : (layout : Layout) (u : Upload) (a : Announcement) (o : ℕ) (clean : Bool) (bytes : List ℕ) → u.announcement ≡ a → length u.accepted ≡ o → o < a.length
    → bytes_eq (behind layout o bytes) (nothing layout o) ≡ clean → is_unclean layout u bytes ≡ not clean
unclean_is layout u a o clean bytes e n lt is =
    let m : u.announcement.length ≡ a.length = ap (λ (b : Announcement). b.length) e in
    let test : bytes_eq (behind layout (length u.accepted) bytes) (nothing layout (length u.accepted)) ≡ clean = (λ i. bytes_eq (behind layout (n i) bytes) (nothing layout (n i))) ∙ is in
    (λ i. below_is (length u.accepted) u.announcement.length (omega arith) i && not (test i))

abbrev turned_if : Bool → ℕ → ℕ → ℕ
turned_if b m n = if b then m else n

needs_tail : OneRecord → (layout : Layout) (p : ProgressState) (a : Announcement) (o : ℕ) (clean : Bool) (bytes : List ℕ) → o < a.length → HeldAs layout false p a o bytes → bytes_eq (behind layout o bytes) (nothing layout o) ≡ clean → NeedsJust layout (if clean then 0 else 2) bytes
needs_tail one layout p a o clean bytes lt h is m needs =
    let up = found h.side.upload (record { announcement = a; offset = o }) h.upload in
    held_needs one layout false p a o bytes h m needs ∙ ap (λ (x : Option Upload). mount_records layout false x bytes) up.is
    ∙ ap (λ (b : Bool). turned_if (b && differs up.u.announcement.digest up.u.accepted) 1 (turned_if (is_unclean layout up.u bytes) 2 0)) (incomplete_by up.u a o up.announcement up.offset lt)
    ∙ ap (λ (b : Bool). turned_if b 2 0) (unclean_is layout up.u a o clean bytes up.announcement up.offset lt is) ∙ turned clean
  where
    turned : (clean : Bool) → turned_if (not clean) 2 0 ≡ turned_if clean 0 2
    turned true = refl
    turned false = refl

decided : (b : Bool) (xs ys : List ℕ) → (IsTrue b → xs ≡ ys) → (xs ≡ ys → IsTrue b) → bytes_eq xs ys ≡ b
decided true xs ys f g = (bytes_eq-Decides xs ys).1 (f refl)
decided false xs ys f g = go (bytes_eq xs ys) refl
  where
    go : (c : Bool) → bytes_eq xs ys ≡ c → c ≡ false
    go false e = refl
    go true e = absurd (cc (g ((bytes_eq-Decides xs ys).0 e)))

pub told_needs_rescue : OneRecord → (layout : Layout) (p : ProgressState) (a : Announcement) (o : ℕ) (x : Option (List ℕ)) → IfSome x (HeldAs layout true p a o) → IfSome x (NeedsJust layout 1)
told_needs_rescue one layout p a o x h = IfSome-map (HeldAs layout true p a o) (NeedsJust layout 1) x (λ u hh. needs_rescue one layout p a o u hh) h

-- whether it is clean, as it was found
abbrev pub CleanIs : Layout → ℕ → Bool → List ℕ → Type 0
CleanIs layout o clean held = (IsTrue clean → behind layout o held ≡ nothing layout o) × (behind layout o held ≡ nothing layout o → IsTrue clean)

pub told_needs_tail : OneRecord → (layout : Layout) (p : ProgressState) (a : Announcement) (o : ℕ) (clean : Bool) (x : Option (List ℕ)) → o < a.length → IfSome x (HeldAs layout false p a o) → IfSome x (CleanIs layout o clean) → IfSome x (NeedsJust layout (if clean then 0 else 2))
told_needs_tail one layout p a o clean x lt h is =
    IfSome-map (λ u. HeldAs layout false p a o u × CleanIs layout o clean u) (NeedsJust layout (if clean then 0 else 2)) x
    (λ u both. needs_tail one layout p a o clean u lt both.0 (decided clean (behind layout o u) (nothing layout o) both.1.0 both.1.1))
    (if_both (HeldAs layout false p a o) (CleanIs layout o clean) x h is)

pub told_tail_clean : (layout : Layout) (o m : ℕ) (clean : Bool) (x : Option (List ℕ)) → IsTrue clean → IfSome x (CleanIs layout o clean) → IfSome x (CleanFrom layout o m)
told_tail_clean layout o m clean x whole is = IfSome-map (CleanIs layout o clean) (CleanFrom layout o m) x (λ u both below. both.0 whole) is

pub tail_calls : (layout : Layout) (o : ℕ) (end : End) (p q : FlashState) → o ≤ slot_size (geometry_of layout) → Calls (spot ((slot_of layout 1).at + o) (tail (geometry_of layout).page o)) end p q → Calls (upload_spots layout) end p q
tail_calls layout o end p q le calls =
    let s = slot_size (geometry_of layout) in
    let at = (slot_of layout 1).at in
    let r : Regular (geometry_of layout) = regular (geometry_of layout) layout.lawful in
    let last : o + tail (geometry_of layout).page o ≤ s = tail_last (geometry_of layout).page o s r.is_page r.slot_whole le in
    Calls-wider (upload_spots layout) (spot (at + o) (tail (geometry_of layout).page o)) end p q (Covers-within (at + o) (tail (geometry_of layout).page o) at (s + 8192 + (geometry_of layout).page) (omega arith) (omega arith)) calls
