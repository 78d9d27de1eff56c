use Rattle.std.proofs.Common.{rules}
use Rattle.container_file.specs.Meaning.{contents_of}
use Rattle.container_file.proofs.Searching.{found_from}
use Rattle.container_file.proofs.file.ContainerFile.first_of.Goals as goal

pub returns : goal.returns
returns g c = found_from _ _ (g.F.Key.bytes c.args.fingerprint) (contents_of g.F.Key.WIDE c.args.self.now) c.containers.result c.find_map.result c.containers.ensures.count (search rules) (λ k q h. search rules) c.find_map.ensures.runs
