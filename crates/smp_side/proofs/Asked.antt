-- A side after a request, as the next one needs it.
use Rattle.std.proofs.Common.{◌≡◌, ℕ, List, sym, ◌∙◌, ap}
use Rattle.std.specs.Prelude.{IfSome}
use Rattle.smp_flash.specs.Calls.{Passes}
use Rattle.smp_flash.specs.Layout.{geometry_of}
use Rattle.smp_flash.specs.State.{FlashState, End}
use Rattle.smp_flash.specs.State.End.{Went, WentOff, Failed}
use Rattle.smp_flash.specs.declared.layout.Layout.{Layout}
use Rattle.smp_flash.proofs.Telling.{IfSome-map}
use Rattle.smp_model.specs.declared.device.Side.{Side}
use Rattle.smp_model.specs.Response.{SideResponse}
use Rattle.smp_model.specs.Sides.{side_settle_steps}
use Rattle.smp_upload.specs.Bytes.{SideReadable}
use Rattle.smp_upload.specs.Moves.{Moved, mount_spots}
use Rattle.smp_upload.specs.States.{known_mounted}
use Rattle.smp_upload.specs.declared.states.UploadFault.{UploadFault}
use Rattle.smp_side.specs.Held.{Answers, Broken, HeldSays, held_layout, result_end}
use Rattle.smp_side.specs.declared.held.Held.{Held}
use Rattle.smp_side.specs.declared.held.Held.TheVariants as helds
use Rattle.smp_side.specs.declared.held.Handed.{Handed}
use Rattle.smp_side.proofs.Answering.{held_unmounted, readable_after, readable_of}

pub same_sizes : (end : End) (a b : FlashState) → Passes end a b → b.geometry ≡ a.geometry
same_sizes Went a b p = p.geometry
same_sizes WentOff a b p = p.geometry
same_sizes (Failed operation) a b p = p.geometry

pub sizes_after : (layout : Layout) (n : ℕ) (respond : Side → SideResponse) (handed : Handed) (a b : FlashState)
    → Answers layout n respond handed a b → geometry_of layout ≡ a.geometry → geometry_of (held_layout handed.held) ≡ b.geometry
sizes_after layout n respond handed a b h e = ap geometry_of h.layout_kept ∙ e ∙ sym (same_sizes (result_end handed.result) a b h.moved.calls.passes)

held_readable : (held : Held) (bytes : List ℕ) → HeldSays held bytes → SideReadable (held_layout held) bytes
held_readable (helds.Unmounted u) bytes says = says
held_readable (helds.Mounted m) bytes says = readable_of (known_mounted m) bytes says

pub lost_says : (held : Held) (layout : Layout) (fault : UploadFault) (handed : Handed) (n : ℕ) (end : End) (a b : FlashState)
    → Broken layout fault handed → layout ≡ held_layout held → Moved (held_layout held) (mount_spots (held_layout held)) n side_settle_steps end a b
    → IfSome a.bytes (HeldSays held) → IfSome b.bytes (HeldSays handed.held)
lost_says held layout fault handed n end a b broken e moved says =
    let l = held_layout held in
    IfSome-map (SideReadable l) (HeldSays handed.held) b.bytes (λ u read. held_unmounted handed.held l u (broken.layout_kept ∙ e) broken.unmounted read)
    (readable_after l (mount_spots l) n side_settle_steps end a b moved (IfSome-map (HeldSays held) (SideReadable l) a.bytes (held_readable held) says))
