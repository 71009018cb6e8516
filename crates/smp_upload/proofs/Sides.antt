-- A flash stands for one side.
use Rattle.std.proofs.Common.{◌≡◌, ℕ, Bool, false, Option, Some, None, List, length, refl, sym, ◌∙◌, ap, subst}
use Rattle.smp_flash.specs.declared.layout.Layout.{Layout}
use Rattle.smp_model.specs.declared.device.Side.{Side}
use Rattle.smp_model.specs.declared.device.Upload.{Upload}
use Rattle.smp_model.specs.declared.upload.Announcement.{Announcement}
use Rattle.smp_progress.specs.Cells.{HasRecord}
use Rattle.smp_progress.specs.declared.record.Record.{Record}
use Rattle.smp_progress.specs.declared.record.Record.TheVariants as records
use Rattle.smp_upload.specs.Bytes.{SideStands, SideShows, Accepts, record_of, accepted_in}
use Rattle.smp_upload.specs.States.{Known, Knows, Says}
use Rattle.smp_upload.proofs.Composing.{shows_stands}

-- what the crate below promises of a record, and what follows for a side
abbrev pub OneRecord : Type 0
OneRecord = (layout : Layout) (x y : Record) (bytes : List ℕ) → HasRecord layout x bytes → HasRecord layout y bytes → x ≡ y

abbrev pub OneSide : Type 0
OneSide = (layout : Layout) (x y : Side) (bytes : List ℕ) → SideStands layout x bytes → SideStands layout y bytes → x ≡ y

abbrev announcement_in : Announcement → Record → Announcement
announcement_in a records.None = a
announcement_in a (records.Upload b offset rescue) = b

abbrev offset_in : Record → ℕ
offset_in records.None = 0
offset_in (records.Upload b offset rescue) = offset

abbrev rescue_in : Record → Bool
rescue_in records.None = false
rescue_in (records.Upload b offset rescue) = rescue

upload_same : (u v : Upload) → u.announcement ≡ v.announcement → u.accepted ≡ v.accepted → u ≡ v
upload_same u v a b = λ i. record { announcement = a i; accepted = b i }

accepted_same : (layout : Layout) (r s : Bool) (m n : ℕ) (bytes : List ℕ) → r ≡ s → m ≡ n → accepted_in layout r m bytes ≡ accepted_in layout s n bytes
accepted_same layout r s m n bytes e f = λ i. accepted_in layout (e i) (f i) bytes

one_upload : (layout : Layout) (r s : Bool) (x y : Option Upload) (bytes : List ℕ) → record_of r x ≡ record_of s y → Accepts layout r x bytes → Accepts layout s y bytes → x ≡ y
one_upload layout r s None None bytes e a b = refl
one_upload layout r s None (Some v) bytes e a b = absurd (cc e)
one_upload layout r s (Some u) None bytes e a b = absurd (cc e)
one_upload layout r s (Some u) (Some v) bytes e a b =
    let same : u.accepted ≡ v.accepted = a ∙ accepted_same layout r s (length u.accepted) (length v.accepted) bytes (ap rescue_in e) (ap offset_in e) ∙ sym b in
    ap (λ (w : Upload). Some w) (upload_same u v (ap (announcement_in u.announcement) e) same)

side_same : (x y : Side) → x.active ≡ y.active → x.confirmed ≡ y.confirmed → x.upload ≡ y.upload → x.pending ≡ y.pending → x ≡ y
side_same x y a b c d = λ i. record { active = a i; confirmed = b i; upload = c i; pending = d i }

pub one_side : OneRecord → OneSide
one_side one layout x y bytes a b =
    let s = a.stands in
    let t = b.stands in
    side_same x y (s.active ∙ sym t.active) (s.confirmed ∙ sym t.confirmed)
    (one_upload layout a.rescue b.rescue x.upload y.upload bytes (one layout (record_of a.rescue x.upload) (record_of b.rescue y.upload) bytes s.entry t.entry) s.accepts t.accepts)
    (s.pending ∙ sym t.pending)

-- what a state says holds of the side that the bytes stand for
pub says_shows : OneSide → (known : Known) (side : Side) (bytes : List ℕ) → Says known bytes → SideStands known.layout side bytes → SideShows known.layout side bytes
says_shows one known side bytes s stands =
    let e : s.side ≡ side = one known.layout s.side side bytes (shows_stands known.layout s.side bytes s.shows) stands in
    subst (λ (x : Side). SideShows known.layout x bytes) e s.shows

pub says_knows : OneSide → (known : Known) (side : Side) (bytes : List ℕ) → Says known bytes → SideStands known.layout side bytes → Knows known side
says_knows one known side bytes s stands =
    let e : s.side ≡ side = one known.layout s.side side bytes (shows_stands known.layout s.side bytes s.shows) stands in
    subst (λ (x : Side). Knows known x) e s.knows
