-- The chunk servers among nodes.
use Rattle.std.proofs.Common.{◌≡◌, List, [], ◌∷◌, refl, ap}
use Rattle.std.specs.Prelude.{map}
use Rattle.qfs_meta.specs.Metaserver.{Metaserver}
use Rattle.qfs_nodes.specs.Nodes.{nodes_with, stores_of}
use Rattle.qfs_nodes.specs.declared.node.NodeState.TheVariants as Node
use Rattle.qfs_store.specs.Stored.{Stored}

stores-map : (D : Type 0) (stores : List Stored) → stores_of {D = D} (map Node.Store stores) ≡ stores
stores-map D [] = refl
stores-map D (stored ∷ stores) = ap (λ rest. stored ∷ rest) (stores-map D stores)

pub stores-with : (D : Type 0) (meta : Metaserver) (stores : List Stored) → stores_of (nodes_with {D = D} meta stores) ≡ stores
stores-with D meta stores = stores-map D stores
