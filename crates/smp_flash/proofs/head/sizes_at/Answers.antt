use Rattle.smp_flash.proofs.Heads.{sizes_found}
use Rattle.smp_flash.proofs.head.sizes_at.Goals as goal

pub returns : goal.returns
returns c =
    sizes_found c.args.head.now _ _ _ c.from_be_bytes-4.result _ c.from_be_bytes.ensures c.from_be_bytes-2.ensures c.from_be_bytes-3.ensures c.from_be_bytes-4.ensures
    c.images_of.ensures
