pub mod ChangeCost
