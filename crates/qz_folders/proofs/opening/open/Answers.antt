use Rattle.std.proofs.Common.{option_map, ap, ◌∙◌}
use Rattle.qz_folders.proofs.Files.{carried}
use Rattle.qz_folders.proofs.Opened.{since_then}
use Rattle.qz_folders.proofs.opening.open.Goals as goal

pub returns-in-Ok-clause-opened : goal.returns-in-Ok-clause-opened
returns-in-Ok-clause-opened g c =
    let load = c.in-Ok.ensures in
    let same = c.in_ok-disk.ensures.files.same in
    record {
      list = carried _ _ same.reads load.list (λ _ h. h);
      kept = load.kept ∙ ap (option_map (λ _. c.in-Ok.made.1)) same.reads;
      no_doubt = load.no_doubt;
      acknowledged = carried _ _ same.reads load.acknowledged (λ _ h. h);
      any_moment = since_then _ _ (g.F.Disk.Disk.moment c.in_ok-disk.disk) _ (g.F.Disk.Disk.left_at c.in_ok-disk.disk) _ same load.any_moment;
    }
