-- The nodes of a world: the metaserver, and behind it the chunk servers over their devices.
use Rattle.std.specs.Prelude.{ℕ, ◌≡◌, List, [], ◌∷◌, length, map, take, drop, Option}
use Rattle.std.specs.Option.{ForSome}
use Rattle.qfs_base.specs.declared.image.MetaImage.{MetaImage}
use Rattle.qfs_device.specs.Held.{Held, new_device}
use Rattle.qfs_meta.specs.Metaserver.{Metaserver}
use Rattle.qfs_model_meta.specs.Step.{opening}
use Rattle.qfs_nodes.specs.declared.node.NodeState.{NodeState}
use Rattle.qfs_nodes.specs.declared.node.NodeState.TheVariants as Node
use Rattle.qfs_store.specs.Stored.{Stored, no_copies}

-- ---- chunk servers over devices

-- as far as a device tells what it holds, it is new
abbrev pub IsNew : {D : Type 0} → (D → Option Held) → D → Type 0
IsNew told device = ForSome (told device) (λ held. held ≡ new_device)

-- a server over a device, under a layout of this stripe: it is up and knows of no copies
abbrev pub stored_over : {D : Type 0} → (D → Option Held) → (D → ℕ) → ℕ → D → Stored
stored_over told faults stripe device =
    record { stripe = stripe; known = no_copies; told = told device; faults = faults device }

abbrev pub stores_over : {D : Type 0} → (D → Option Held) → (D → ℕ) → ℕ → List D → List Stored
stores_over told faults stripe devices = map (stored_over told faults stripe) devices

-- these devices are those of chunk servers, which tell what the servers' did, and behind them these
-- others
pub record AreHome {D : Type 0} (told : D → Option Held) (faults : D → ℕ) (stores : List Stored)
    (others devices : List D) : Type 0 where
  pub told_are : map told (take (length stores) devices)
      ≡ map (λ (stored : Stored). stored.told) stores
  pub faults_are : map faults (take (length stores) devices)
      ≡ map (λ (stored : Stored). stored.faults) stores
  pub others_are : drop (length stores) devices ≡ others

-- ---- lists of nodes

module _ {D : Type 0} where
  -- the metaserver and behind it the chunk servers
  abbrev pub nodes_with : Metaserver → List Stored → List (NodeState D)
  nodes_with meta stores = Node.Meta meta ∷ map Node.Store stores

  -- the state of the metaserver, which is the first node
  abbrev pub image_in : NodeState D → MetaImage
  image_in (Node.Meta meta) = meta.image
  image_in (Node.Store stored) = opening 0

  abbrev pub image_of : List (NodeState D) → MetaImage
  image_of [] = opening 0
  image_of (node ∷ nodes) = image_in node

  -- the chunk servers among nodes, in order
  abbrev pub store_before : List Stored → NodeState D → List Stored
  store_before stores (Node.Meta meta) = stores
  store_before stores (Node.Store stored) = stored ∷ stores

  abbrev pub stores_of : List (NodeState D) → List Stored
  stores_of [] = []
  stores_of (node ∷ nodes) = store_before (stores_of nodes) node

  -- the metaserver is first, and chunk servers alone stand behind it
  pub record StartsWithMeta (nodes : List (NodeState D)) : Type 0 where
    pub meta : Metaserver
    pub nodes_are : nodes ≡ nodes_with meta (stores_of nodes)
