-- What the calls that begin from several states need of them.
use Rattle.std.specs.Prelude.{◌≡◌, List, ℕ, None}
use Rattle.smp_flash.specs.declared.layout.Layout.{Layout}
use Rattle.smp_progress.specs.State.{ProgressState}
use Rattle.smp_upload.specs.States.{Known, Says}

-- The bytes are as some state of this layout and record says, and nothing is pending.
pub record Free (layout : Layout) (entry : ProgressState) (bytes : List ℕ) : Type 0 where
  pub known : Known
  pub says : Says known bytes
  pub layout_is : known.layout ≡ layout
  pub entry_is : known.entry ≡ entry
  pub free : known.pending ≡ None
